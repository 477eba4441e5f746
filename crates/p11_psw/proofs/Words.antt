-- A status and its word say the same.
use Rattle.std.proofs.Common.{◌≡◌, ℕ, ◌+◌, ◌*◌, ◌/◌, ◌%◌, ◌<◌, ◌^◌, Bool, true, false, ◌==◌, refl, ap, ◌∙◌, arith}
use Rattle.std.proofs.lemmas.Bool.Decides.{nat_tests}
use Rattle.p11_psw.specs.declared.mode.Mode.{Mode}
use Rattle.p11_psw.specs.declared.mode.Mode.TheVariants.{Kernel, Mode01, Mode10, User}
use Rattle.p11_psw.specs.declared.priority.Priority.{Priority}
use Rattle.p11_psw.specs.declared.priority.Priority.TheVariants.{Level0, Level1, Level2, Level3, Level4, Level5, Level6, Level7}
use Rattle.p11_psw.specs.declared.psw.Psw.{Psw}
use Rattle.p11_psw.specs.Fields.{mode_number, mode_at, priority_number, priority_at}
use Rattle.p11_words.specs.Bits.{flag}
use Rattle.p11_psw.specs.Status.{status_of, status_word}
use Rattle.p11_psw.specs.Laws.Words.{without_unused}

mode_below : (m : Mode) → mode_number m < 4
mode_below Kernel = omega arith
mode_below Mode01 = omega arith
mode_below Mode10 = omega arith
mode_below User = omega arith

priority_below : (p : Priority) → priority_number p < 8
priority_below Level0 = omega arith
priority_below Level1 = omega arith
priority_below Level2 = omega arith
priority_below Level3 = omega arith
priority_below Level4 = omega arith
priority_below Level5 = omega arith
priority_below Level6 = omega arith
priority_below Level7 = omega arith

flag_below : (b : Bool) → flag b 1 < 2
flag_below false = omega arith
flag_below true = omega arith

-- a flag of any weight
flag_times : (b : Bool) (weight : ℕ) → flag b weight ≡ flag b 1 * weight
flag_times false weight = omega arith
flag_times true weight = omega arith

mode_back : (m : Mode) → mode_at (mode_number m) ≡ m
mode_back Kernel = refl
mode_back Mode01 = refl
mode_back Mode10 = refl
mode_back User = refl

priority_back : (p : Priority) → priority_at (priority_number p) ≡ p
priority_back Level0 = refl
priority_back Level1 = refl
priority_back Level2 = refl
priority_back Level3 = refl
priority_back Level4 = refl
priority_back Level5 = refl
priority_back Level6 = refl
priority_back Level7 = refl

flag_back : (b : Bool) → (flag b 1 == 1) ≡ b
flag_back false = refl
flag_back true = refl

-- the numbers of a status, each in its range
record Parts (a b p t n z v c : ℕ) : Type 0 where
  pub a_in : a < 4
  pub b_in : b < 4
  pub p_in : p < 8
  pub t_in : t < 2
  pub n_in : n < 2
  pub z_in : z < 2
  pub v_in : v < 2
  pub c_in : c < 2

-- the word that they make
abbrev packed : (a b p t n z v c : ℕ) → ℕ
packed a b p t n z v c = a * 0o40000 + b * 0o10000 + p * 0o40 + t * 0o20 + n * 0o10 + z * 0o4 + v * 0o2 + c

-- each number stands at its place
record Unpacked (w a b p t n z v c : ℕ) : Type 0 where
  pub a_is : w / 0o40000 % 4 ≡ a
  pub b_is : w / 0o10000 % 4 ≡ b
  pub p_is : w / 0o40 % 8 ≡ p
  pub t_is : w / 0o20 % 2 ≡ t
  pub n_is : w / 0o10 % 2 ≡ n
  pub z_is : w / 0o4 % 2 ≡ z
  pub v_is : w / 0o2 % 2 ≡ v
  pub c_is : w / 0o1 % 2 ≡ c
  pub gap : w / 0o10000 * 0o10000 + w % 0o400 ≡ w
  pub fits : w < 2 ^ 16

unpacked : (a b p t n z v c : ℕ) → Parts a b p t n z v c → Unpacked (packed a b p t n z v c) a b p t n z v c
unpacked a b p t n z v c h =
    record {
      a_is = omega (arith, h.a_in, h.b_in, h.p_in, h.t_in, h.n_in, h.z_in, h.v_in, h.c_in);
      b_is = omega (arith, h.a_in, h.b_in, h.p_in, h.t_in, h.n_in, h.z_in, h.v_in, h.c_in);
      p_is = omega (arith, h.a_in, h.b_in, h.p_in, h.t_in, h.n_in, h.z_in, h.v_in, h.c_in);
      t_is = omega (arith, h.a_in, h.b_in, h.p_in, h.t_in, h.n_in, h.z_in, h.v_in, h.c_in);
      n_is = omega (arith, h.a_in, h.b_in, h.p_in, h.t_in, h.n_in, h.z_in, h.v_in, h.c_in);
      z_is = omega (arith, h.a_in, h.b_in, h.p_in, h.t_in, h.n_in, h.z_in, h.v_in, h.c_in);
      v_is = omega (arith, h.a_in, h.b_in, h.p_in, h.t_in, h.n_in, h.z_in, h.v_in, h.c_in);
      c_is = omega (arith, h.a_in, h.b_in, h.p_in, h.t_in, h.n_in, h.z_in, h.v_in, h.c_in);
      gap = omega (arith, h.a_in, h.b_in, h.p_in, h.t_in, h.n_in, h.z_in, h.v_in, h.c_in);
      fits = omega (arith, h.a_in, h.b_in, h.p_in, h.t_in, h.n_in, h.z_in, h.v_in, h.c_in);
    }

of_status : (p : Psw) → Unpacked (status_word p) (mode_number p.current) (mode_number p.previous) (priority_number p.priority) ((flag p.trace 1)) ((flag p.n 1)) ((flag p.z 1)) ((flag p.v 1)) ((flag p.c 1))
unfolding status_word
of_status p =
    rw (flag_times p.trace 0o20, flag_times p.n 0o10, flag_times p.z 0o4, flag_times p.v 0o2)
    (unpacked _ _ _ _ _ _ _ _ record {
      a_in = mode_below p.current;
      b_in = mode_below p.previous;
      p_in = priority_below p.priority;
      t_in = flag_below p.trace;
      n_in = flag_below p.n;
      z_in = flag_below p.z;
      v_in = flag_below p.v;
      c_in = flag_below p.c;
    })

pub status_of-status_word : (p : Psw) → status_of (status_word p) ≡ p
unfolding status_of
status_of-status_word p =
    let u = of_status p in
    rw (u.a_is, u.b_is, u.p_is, u.t_is, u.n_is, u.z_is, u.v_is, u.c_is)
    (rw (mode_back p.current, mode_back p.previous, priority_back p.priority, flag_back p.trace, flag_back p.n, flag_back p.z, flag_back p.v, flag_back p.c) refl)

pub status_word-below : (p : Psw) → status_word p < 2 ^ 16
status_word-below p = (of_status p).fits

pub without_unused-status_word : (p : Psw) → without_unused (status_word p) ≡ status_word p
unfolding without_unused
without_unused-status_word p = (of_status p).gap

mode_forth : (n : ℕ) → n < 4 → mode_number (mode_at n) ≡ n
mode_forth n h = grind (arith, nat_tests)

priority_forth : (n : ℕ) → n < 8 → priority_number (priority_at n) ≡ n
priority_forth n h = grind (arith, nat_tests)

flag_forth : (n weight : ℕ) → n < 2 → flag (n == 1) weight ≡ n * weight
flag_forth n weight h =
    let one : flag (n == 1) 1 ≡ n = grind (arith, nat_tests) in
    flag_times (n == 1) weight ∙ ap (λ k. k * weight) one

pub status_word-status_of : (w : ℕ) → w < 2 ^ 16 → status_word (status_of w) ≡ without_unused w
unfolding status_word status_of without_unused
status_word-status_of w h =
    rw (mode_forth (w / 0o40000 % 4) (omega arith), mode_forth (w / 0o10000 % 4) (omega arith), priority_forth (w / 0o40 % 8) (omega arith), flag_forth (w / 0o20 % 2) 0o20 (omega arith), flag_forth (w / 0o10 % 2) 0o10 (omega arith), flag_forth (w / 0o4 % 2) 0o4 (omega arith), flag_forth (w / 0o2 % 2) 0o2 (omega arith), flag_forth (w / 0o1 % 2) 0o1 (omega arith))
    (omega arith)
