-- How a command that is refused is answered.
use Rattle.std.specs.Prelude.{◌≡◌, Option, None, Some}
use Rattle.p11_lines.specs.declared.fault.Fault.{Fault}
use Rattle.p11_lines.specs.declared.answer.Answer.{Answer}
use Rattle.p11_lines.specs.declared.answer.Answer.TheVariants.{Refused}
use Rattle.p11_cpu.specs.State.{State}

-- a refused command answers its fault, and changes nothing
abbrev pub IsRefused : {A S : Type 0} → Fault → S → Answer A → S → Type 0
IsRefused fault s answer s' = (answer ≡ Refused fault) × (s' ≡ s)

-- a command that has a fault is refused; one that has none is done, and comes to a state with an answer
abbrev pub unless : {A : Type 0} → Option Fault → State → State × Answer A → State × Answer A
unless (Some fault) s done = (s, Refused fault)
unless None s done = done
