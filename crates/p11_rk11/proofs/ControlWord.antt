-- RKCS, bit by bit.
use Rattle.std.proofs.Common.{◌≡◌, ℕ, ◌+◌, ◌*◌, ◌/◌, ◌%◌, ◌<◌, Bool, true, false, refl, arith}
use Rattle.std.specs.Prelude.{◌==◌, not, if◌then◌else◌}
use Rattle.p11_rk11.specs.declared.registers.Registers.{Registers}
use Rattle.p11_rk11.specs.declared.function.Function.{Function}
use Rattle.p11_rk11.specs.declared.function.Function.TheVariants.{ControlReset, Write, Read, WriteCheck, Seek, ReadCheck, DriveReset, WriteLock}
use Rattle.p11_words.specs.Bits.{flag}
use Rattle.p11_rk11.specs.Functions.{function_number}
use Rattle.p11_rk11.specs.Laws.Registers.{ShowsItsBits}
use Rattle.p11_rk11.specs.Registers.{control_word, is_ready}

-- a flag is its weight times 0 or 1
digit : Bool → ℕ
digit b = if b then 1 else 0

weighed : (b : Bool) (weight : ℕ) → flag b weight ≡ weight * digit b
unfolding digit
weighed true weight = omega arith
weighed false weight = omega arith

digit_below : (b : Bool) → digit b < 2
unfolding digit
digit_below true = omega arith
digit_below false = omega arith

digit_is : (b : Bool) (n : ℕ) → n ≡ digit b → (n == 1) ≡ b
unfolding digit
digit_is true n e = rw e refl
digit_is false n e = rw e refl

function_below : (f : Function) → function_number f < 8
function_below ControlReset = omega arith
function_below Write = omega arith
function_below Read = omega arith
function_below WriteCheck = omega arith
function_below Seek = omega arith
function_below ReadCheck = omega arith
function_below DriveReset = omega arith
function_below WriteLock = omega arith

-- the digits of a sum of weights
record Digits (w f x d6 d7 d8 d10 d11 d13 d14 d15 : ℕ) : Type 0 where
  go : w % 2 ≡ 0
  function : w / 2 % 8 ≡ f
  extension : w / 0o20 % 4 ≡ x
  b6 : w / 0o100 % 2 ≡ d6
  b7 : w / 0o200 % 2 ≡ d7
  b8 : w / 0o400 % 2 ≡ d8
  b9 : w / 0o1000 % 2 ≡ 0
  b10 : w / 0o2000 % 2 ≡ d10
  b11 : w / 0o4000 % 2 ≡ d11
  b12 : w / 0o10000 % 2 ≡ 0
  b13 : w / 0o20000 % 2 ≡ d13
  b14 : w / 0o40000 % 2 ≡ d14
  b15 : w / 0o100000 % 2 ≡ d15

digits : (w f x d6 d7 d8 d10 d11 d13 d14 d15 : ℕ) → f < 8 → x < 4 → d6 < 2 → d7 < 2 → d8 < 2 → d10 < 2 → d11 < 2 → d13 < 2 → d14 < 2 → d15 < 2
    → w ≡ f * 0o2 + x * 0o20 + 0o100 * d6 + 0o200 * d7 + 0o400 * d8 + 0o2000 * d10 + 0o4000 * d11 + 0o20000 * d13 + 0o40000 * d14 + 0o100000 * d15
    → Digits w f x d6 d7 d8 d10 d11 d13 d14 d15
digits w f x d6 d7 d8 d10 d11 d13 d14 d15 hf hx h6 h7 h8 h10 h11 h13 h14 h15 sum =
    record {
      go = omega (arith, hf, hx, h6, h7, h8, h10, h11, h13, h14, h15, sum);
      function = omega (arith, hf, hx, h6, h7, h8, h10, h11, h13, h14, h15, sum);
      extension = omega (arith, hf, hx, h6, h7, h8, h10, h11, h13, h14, h15, sum);
      b6 = omega (arith, hf, hx, h6, h7, h8, h10, h11, h13, h14, h15, sum);
      b7 = omega (arith, hf, hx, h6, h7, h8, h10, h11, h13, h14, h15, sum);
      b8 = omega (arith, hf, hx, h6, h7, h8, h10, h11, h13, h14, h15, sum);
      b9 = omega (arith, hf, hx, h6, h7, h8, h10, h11, h13, h14, h15, sum);
      b10 = omega (arith, hf, hx, h6, h7, h8, h10, h11, h13, h14, h15, sum);
      b11 = omega (arith, hf, hx, h6, h7, h8, h10, h11, h13, h14, h15, sum);
      b12 = omega (arith, hf, hx, h6, h7, h8, h10, h11, h13, h14, h15, sum);
      b13 = omega (arith, hf, hx, h6, h7, h8, h10, h11, h13, h14, h15, sum);
      b14 = omega (arith, hf, hx, h6, h7, h8, h10, h11, h13, h14, h15, sum);
      b15 = omega (arith, hf, hx, h6, h7, h8, h10, h11, h13, h14, h15, sum);
    }

pub shows_its_bits : (r : Registers) → r.bus_address < 0o1000000 → ShowsItsBits r
unfolding control_word
shows_its_bits r address =
    let hard : Bool = not (r.errors / 2 == 0) in
    let any : Bool = not (r.errors == 0) in
    let sum : control_word r ≡ function_number r.function * 0o2 + r.bus_address / 0o200000 * 0o20 + 0o100 * digit r.enable + 0o200 * digit (is_ready r)
    + 0o400 * digit r.stop_on_soft_error + 0o2000 * digit r.format + 0o4000 * digit r.inhibit_increment + 0o20000 * digit r.search_complete
    + 0o40000 * digit hard + 0o100000 * digit any =
    rw (weighed r.enable 0o100, weighed (is_ready r) 0o200, weighed r.stop_on_soft_error 0o400, weighed r.format 0o2000, weighed r.inhibit_increment 0o4000, weighed r.search_complete 0o20000, weighed hard 0o40000, weighed any 0o100000) refl in
    let d = digits (control_word r) (function_number r.function) (r.bus_address / 0o200000) (digit r.enable) (digit (is_ready r)) (digit r.stop_on_soft_error) (digit r.format) (digit r.inhibit_increment) (digit r.search_complete) (digit hard) (digit any)
    (function_below r.function) (omega (arith, address)) (digit_below r.enable) (digit_below (is_ready r)) (digit_below r.stop_on_soft_error) (digit_below r.format) (digit_below r.inhibit_increment) (digit_below r.search_complete) (digit_below hard) (digit_below any) sum in
    record {
      zeros = (d.go, d.b9, d.b12);
      function = d.function;
      extension = d.extension;
      enable = digit_is r.enable _ d.b6;
      ready = digit_is (is_ready r) _ d.b7;
      stop_on_soft_error = digit_is r.stop_on_soft_error _ d.b8;
      format = digit_is r.format _ d.b10;
      inhibit_increment = digit_is r.inhibit_increment _ d.b11;
      search_complete = digit_is r.search_complete _ d.b13;
      hard_error = digit_is hard _ d.b14;
      error = digit_is any _ d.b15;
    }
