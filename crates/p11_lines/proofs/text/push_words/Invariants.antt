use Rattle.std.proofs.Common.{◌≡◌, ◌++◌, ◌∷◌, take, string_bytes}
use Rattle.std.specs.List.{flat_map}
use Rattle.p11_lines.specs.Calls.LineText.{octal}
use Rattle.p11_lines.proofs.text.push_words.Given as goal

abbrev pub invariant-loop-word : goal.invariant-loop-word
invariant-loop-word g l = string_bytes l.text ≡ string_bytes l.fn.text ++ flat_map (λ word. 32 ∷ octal word) (take l.word-index l.words)
