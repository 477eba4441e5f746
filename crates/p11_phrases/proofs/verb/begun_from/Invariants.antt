use Rattle.std.proofs.Common.{◌≡◌}
use Rattle.p11_phrases.specs.Verbs.{begun_from}
use Rattle.p11_phrases.proofs.verb.begun_from.Given as goal

abbrev pub invariant-loop-index : goal.invariant-loop-index
invariant-loop-index l = begun_from l.front l.index ≡ begun_from l.front l.place
