use Rattle.std.proofs.Common.{◌≡◌, ◌++◌, take}
use Rattle.p11_lines.specs.Escapes.{escaped}
use Rattle.p11_lines.proofs.text.push_escaped.Given as goal

abbrev pub invariant-loop-byte : goal.invariant-loop-byte
invariant-loop-byte g l = l.text.items ≡ l.fn.text.items ++ escaped (take l.byte-index l.bytes)
