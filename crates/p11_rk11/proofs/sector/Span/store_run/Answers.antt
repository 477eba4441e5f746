use Rattle.std.proofs.Common.{◌≡◌, arith, length, take}
use Rattle.std.proofs.lemmas.List.{length-take-le}
use Rattle.p11_rk11.proofs.Runs.{run_within, run_stored}
use Rattle.p11_rk11.proofs.sector.Span.store_run.Goals as goal

pub store_run-requires-clause-held : goal.store_run-requires-clause-held
store_run-requires-clause-held g c =
    let long : length (take c.args.self.count c.args.words.now) ≡ c.args.self.count = length-take-le c.args.self.count c.args.words.now (omega (arith, c.fits-words, c.requires.count)) in
    rw (c.all.ensures.value, long)
    (run_within c.args.self.start c.args.self.count c.args.self.stays _ c.requires.stays (rw c.all.ensures.value at c.all.ensures.even) c.requires.some c.requires.ends c.requires.held)

pub returns-clause-words : goal.returns-clause-words
returns-clause-words g c =
    let long : length (take c.args.self.count c.args.words.now) ≡ c.args.self.count = length-take-le c.args.self.count c.args.words.now (omega (arith, c.fits-words, c.requires.count)) in
    run_stored c.args.self.start c.args.self.count _ c.args.self.stays _ c.args.words.now _ c.requires.stays (rw c.all.ensures.value at c.all.ensures.even) c.requires.ends
    (run_within c.args.self.start c.args.self.count c.args.self.stays _ c.requires.stays (rw c.all.ensures.value at c.all.ensures.even) c.requires.some c.requires.ends c.requires.held)
    (omega (arith, c.fits-words, c.requires.count)) long (rw c.all.ensures.value at c.store_run.ensures.words)
