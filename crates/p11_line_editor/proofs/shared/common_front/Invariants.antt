use Rattle.std.proofs.Common.{◌≡◌, ◌-◌, ◌≤◌, length}
use Rattle.p11_line_editor.specs.Completion.{common_front}
use Rattle.p11_line_editor.proofs.Fronts.{seen_so_far}
use Rattle.p11_line_editor.proofs.shared.common_front.Given as goal

abbrev pub invariant-loop-count : goal.invariant-loop-count
invariant-loop-count l = (seen_so_far l.one l.other l.count ≡ common_front l.one l.other) × (l.count ≤ length l.one)

abbrev pub decreases-loop-count : goal.decreases-loop-count
decreases-loop-count l = length l.one - l.count
