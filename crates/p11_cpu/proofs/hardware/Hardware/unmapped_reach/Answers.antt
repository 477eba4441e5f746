use Rattle.std.proofs.Common.{◌≡◌, ◌==◌, ◌%◌, arith, false}
use Rattle.std.proofs.lemmas.Bool.Decides.{nat_tests}
use Rattle.p11_cpu.proofs.Windowed.{byte_reached, word_reached}
use Rattle.p11_cpu.proofs.hardware.Hardware.unmapped_reach.Goals as goal

pub returns-in_ok-place-in-Word : goal.returns-in_ok-place-in-Word
returns-in_ok-place-in-Word g c =
    let even : (c.args.address % 2 == 1) ≡ false = grind (arith, nat_tests, c.if-address-eq1.false) in
    λ turn. word_reached _ _ _ _ _ turn _ c.in-Word.is even (c.in_ok-place-in-Word.ensures turn)

pub returns-in_ok-place-in-Byte : goal.returns-in_ok-place-in-Byte
returns-in_ok-place-in-Byte g c = λ turn. byte_reached _ _ _ _ _ turn _ c.in-Byte.is (c.in_ok-place-in-Byte.ensures turn)
