use Rattle.std.proofs.Common.{◌≡◌, ◌+◌, ◌++◌, drop}
use Rattle.p11_phrases.specs.Phrases.{script, sets}
use Rattle.p11_phrases.proofs.lines.set_lines.Given as goal

abbrev pub invariant-loop-word : goal.invariant-loop-word
invariant-loop-word g l =
    (l.text.items ++ script (sets l.register (drop l.word-index l.words)) ≡ script (sets l.first l.words)) × (l.register ≡ l.first + l.word-index)
