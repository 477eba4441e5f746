use Rattle.std.proofs.Common.{◌≡◌, take}
use Rattle.std.specs.List.{fold}
use Rattle.p11_line_editor.specs.Completion.{common_front}
use Rattle.p11_line_editor.proofs.shared.common.Given as goal

abbrev pub invariant-loop-word : goal.invariant-loop-word
invariant-loop-word l =
    l.front ≡ fold (λ front word. common_front front word.now) l.fn.first (take l.word-index l.others)
