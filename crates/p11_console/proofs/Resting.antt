-- Where a step does nothing.
use Rattle.std.proofs.Common.{◌≡◌, ℕ, false, None, slice_get, refl, sym, subst}
use Rattle.std.specs.Prelude.{IsTrue}
use Rattle.p11_console.specs.State.{ConsoleState}
use Rattle.p11_console.specs.Steps.{Rests, RestsForKeys, RunRests, TypingRests, takes_memory}
use Rattle.p11_dialogue.specs.declared.run.RunProgress.{RunProgress}
use Rattle.p11_dialogue.specs.declared.want.Want.{Want}
use Rattle.p11_dialogue.specs.declared.want.Want.TheVariants as wants
use Rattle.p11_dialogue.specs.declared.activity.Activity.TheVariants.{Typing, Running, Doubting}

pub running_rests : {A : Type 0} (want : Want) (run : RunProgress) (c : ConsoleState A) → c.activity ≡ Running run → RunRests want run c → Rests want c
running_rests wants.Step run c e h = h
running_rests wants.Keys run c e h = absurd h
running_rests wants.Idle run c e h = (run, e, h)
running_rests wants.Memory run c e h = subst (λ activity. IsTrue (takes_memory activity)) (sym e) refl
running_rests wants.Fetch run c e h = absurd h
running_rests wants.Put run c e h = absurd h
running_rests wants.Names run c e h = absurd h
running_rests wants.End run c e h = absurd h

pub typing_rests : {A : Type 0} (want : Want) (c : ConsoleState A) → c.activity ≡ Typing → TypingRests want c → Rests want c
typing_rests wants.Step c e h = h
typing_rests wants.Keys c e h = subst (λ activity. RestsForKeys activity c) (sym e) h
typing_rests wants.Idle c e h = absurd h
typing_rests wants.Memory c e h = subst (λ activity. IsTrue (takes_memory activity)) (sym e) refl
typing_rests wants.Fetch c e h = absurd h
typing_rests wants.Put c e h = absurd h
typing_rests wants.Names c e h = absurd h
typing_rests wants.End c e h = absurd h

pub answer_rests : {A : Type 0} (want : Want) (c : ConsoleState A) → want ≡ wants.Keys → RestsForKeys c.activity c → Rests want c
answer_rests want c is h = subst (λ w. Rests w c) (sym is) h

pub consent_rests : {A : Type 0} (want : Want) (drive : ℕ) (c : ConsoleState A) → c.activity ≡ Doubting drive → (want ≡ wants.Keys) × (slice_get c.waiting 0 ≡ None) × (c.is_over ≡ false) → Rests want c
consent_rests want drive c e h = subst (λ w. Rests w c) (sym h.0) (subst (λ activity. RestsForKeys activity c) (sym e) (h.1, h.2))
