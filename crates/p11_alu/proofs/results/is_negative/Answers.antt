use Rattle.std.proofs.Common.{arith}
use Rattle.p11_alu.proofs.Signs.{negative_word, negative_byte}
use Rattle.p11_alu.proofs.results.is_negative.Goals as goal

pub returns-in-Word : goal.returns-in-Word
returns-in-Word c = rw c.in-Word.is (negative_word _ (omega arith))

pub returns-in-Byte : goal.returns-in-Byte
returns-in-Byte c = rw c.in-Byte.is (negative_byte _ (omega arith))
