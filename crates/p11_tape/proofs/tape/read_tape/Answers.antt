-- A tape has a meaning or a fault, and not both.
use Rattle.std.proofs.Common.{ap}
use Rattle.std.proofs.lemmas.Result.{err_from_is_err_and}
use Rattle.p11_tape.proofs.LawLemmas.{only_memory, fault_no_memory}
use Rattle.p11_tape.proofs.tape.read_tape.Goals as goal

pub returns-in_err-count-clause-memory : goal.returns-in_err-count-clause-memory
returns-in_err-count-clause-memory g c =
    let p = err_from_is_err_and c.from_residual.result c.from_residual.ensures.1 in
    rw (p.1, p.2) (λ m. absurd (fault_no_memory _ _ c.in_err-count.ensures.err m))

pub returns-in_err-start-clause-memory : goal.returns-in_err-start-clause-memory
returns-in_err-start-clause-memory g c =
    let p = err_from_is_err_and c.from_residual-in_err-start.result c.from_residual-in_err-start.ensures.1 in
    let read = c.in_ok-count.ensures.ok in
    rw (p.1, p.2) (λ m. (ap (λ x. x.at) (only_memory _ read.0 _ _ read.1 c.in_err-start.ensures.err), read.0, read.1))
