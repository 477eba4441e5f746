-- The bytes that a text writes, one after the other.
use Rattle.std.proofs.Common.{◌≡◌, ℕ, zero, suc, ◌+◌, ◌/◌, ◌%◌, ◌<◌, ◌≤◌, true, false, nat_eq, nat_le, List, [], ◌∷◌, ◌++◌, length, drop, refl, sym, ap, ◌∙◌, arith, Some, None, All, inl, inr}
use Rattle.std.proofs.lemmas.Bool.{cases_Bool}
use Rattle.std.proofs.lemmas.Bool.Decides.{nat_tests}
use Rattle.std.proofs.lemmas.List.{length-append}
use Rattle.std.proofs.lemmas.List.Elements.{All-nil, All-cons, All-append}
use Rattle.std.specs.Char.{digit_value}
use Rattle.std.specs.Prelude.{option_and_then}
use Rattle.p11_lines.specs.Escapes.{is_plain, escaped_byte, escaped}
use Rattle.p11_lines.specs.Grammar.{escape_from, bytes_past, bytes_from}
use Rattle.p11_lines.proofs.Numbers.{Writes, number_from-Writes}

bytes_past_all : (n : ℕ) (text : List ℕ) → bytes_past n text ≡ bytes_past 0 (drop n text)
unfolding bytes_past
bytes_past_all zero text = refl
bytes_past_all (suc n) [] = refl
bytes_past_all (suc n) (byte ∷ rest) = bytes_past_all n rest

-- the bytes of a text, by what its first byte is
pub at_plain : (text : List ℕ) (byte : ℕ) (rest : List ℕ) → text ≡ byte ∷ rest → true ≡ is_plain byte → bytes_from text ≡ option_and_then (λ bytes. Some (byte ∷ bytes)) (bytes_from rest)
unfolding bytes_past
at_plain text byte rest text_is plain = rw (text_is, ← plain) refl

pub at_other : (text : List ℕ) (byte : ℕ) (rest : List ℕ) → text ≡ byte ∷ rest → false ≡ is_plain byte → nat_eq byte 92 ≡ false → bytes_from text ≡ None
unfolding bytes_past
at_other text byte rest text_is plain other = rw (text_is, ← plain, other) refl

pub at_no_escape : (text : List ℕ) (byte : ℕ) (rest : List ℕ) → text ≡ byte ∷ rest → byte ≡ 92 → None ≡ escape_from rest → bytes_from text ≡ None
unfolding bytes_past
at_no_escape text byte rest text_is backslash none = rw (text_is, backslash, ← none) refl

pub at_escape : (text : List ℕ) (byte : ℕ) (rest after : List ℕ) (escape : ℕ) → text ≡ byte ∷ rest → byte ≡ 92 → Some escape ≡ escape_from rest → after ≡ drop 3 rest → bytes_from text ≡ option_and_then (λ bytes. Some (escape ∷ bytes)) (bytes_from after)
unfolding bytes_past
at_escape text byte rest after escape text_is backslash some after_is = rw (text_is, backslash, ← some, after_is, bytes_past_all 3 rest) refl

-- nothing is left
pub bytes_from-end : (text : List ℕ) → length text ≡ 0 → bytes_from text ≡ Some []
unfolding bytes_past
bytes_from-end [] none = refl
bytes_from-end (byte ∷ text) none = absurd (omega (arith, none))

-- three octal digits write a byte
octal_digit : (n : ℕ) → n < 8 → digit_value (48 + n) ≡ n
octal_digit n small = grind (arith, nat_tests)

escape-Writes : (byte : ℕ) → byte ≤ 255 → Writes 8 3 byte ((48 + byte / 64) ∷ (48 + byte / 8 % 8) ∷ (48 + byte % 8) ∷ [])
escape-Writes byte small =
    let first : digit_value (48 + byte / 64) ≡ byte / 64 = octal_digit (byte / 64) (omega arith) in
    let second : digit_value (48 + byte / 8 % 8) ≡ byte / 8 % 8 = octal_digit (byte / 8 % 8) (omega arith) in
    let third : digit_value (48 + byte % 8) ≡ byte % 8 = octal_digit (byte % 8) (omega arith) in
    record {
      some = omega arith;
      short = omega arith;
      all = (omega (arith, first), (omega (arith, second), (omega (arith, third), tt)));
      value = omega (arith, first, second, third);
    }

escape_from-escape : (byte : ℕ) (more : List ℕ) → byte ≤ 255 → escape_from ((48 + byte / 64) ∷ (48 + byte / 8 % 8) ∷ (48 + byte % 8) ∷ more) ≡ Some byte
unfolding escape_from
escape_from-escape byte more small =
    let long : nat_le 3 (length ((48 + byte / 64) ∷ (48 + byte / 8 % 8) ∷ (48 + byte % 8) ∷ more)) ≡ true = grind (arith, nat_tests) in
    rw long (number_from-Writes 8 3 255 byte _ (escape-Writes byte small) small)

-- what shows a byte reads as the byte
bytes_from-escaped_byte : (byte : ℕ) (more : List ℕ) → byte ≤ 255 → bytes_from (escaped_byte byte ++ more) ≡ option_and_then (λ bytes. Some (byte ∷ bytes)) (bytes_from more)
unfolding escaped_byte
bytes_from-escaped_byte byte more small =
    elim (cases_Bool (is_plain byte)) [
      | inl plain ↦ rw plain (at_plain (byte ∷ more) byte more refl (sym plain))
      | inr not_plain ↦ rw not_plain (at_escape _ 92 ((48 + byte / 64) ∷ (48 + byte / 8 % 8) ∷ (48 + byte % 8) ∷ more) more byte refl refl (sym (escape_from-escape byte more small)) refl)
    ]

pub bytes_from-escaped : (bytes : List ℕ) → All (λ byte. byte ≤ 255) bytes → bytes_from (escaped bytes) ≡ Some bytes
unfolding bytes_past
bytes_from-escaped [] small = refl
bytes_from-escaped (byte ∷ bytes) small =
    bytes_from-escaped_byte byte (escaped bytes) (small 0 0 (omega arith))
    ∙ ap (option_and_then (λ (bytes : List ℕ). Some (byte ∷ bytes))) (bytes_from-escaped bytes (λ k d below. small (suc k) d (omega arith)))

-- no byte of it is a blank or a control character
graphs_of-escaped_byte : (byte : ℕ) → All (λ b. 33 ≤ b) (escaped_byte byte)
unfolding escaped_byte
graphs_of-escaped_byte byte =
    let P : ℕ → Type 0 = λ b. 33 ≤ b in
    elim (cases_Bool (is_plain byte)) [
      | inl plain ↦ let above : 33 ≤ byte = grind (arith, nat_tests) in rw plain (All-cons P byte [] above (All-nil P))
      | inr not_plain ↦
          let last : All P ((48 + byte % 8) ∷ []) = All-cons P (48 + byte % 8) [] (omega arith) (All-nil P) in
          let later : All P ((48 + byte / 8 % 8) ∷ (48 + byte % 8) ∷ []) = All-cons P (48 + byte / 8 % 8) ((48 + byte % 8) ∷ []) (omega arith) last in
          let digits : All P ((48 + byte / 64) ∷ (48 + byte / 8 % 8) ∷ (48 + byte % 8) ∷ []) = All-cons P (48 + byte / 64) ((48 + byte / 8 % 8) ∷ (48 + byte % 8) ∷ []) (omega arith) later in
          rw not_plain (All-cons P 92 ((48 + byte / 64) ∷ (48 + byte / 8 % 8) ∷ (48 + byte % 8) ∷ []) (omega arith) digits)
    ]

pub graphs_of-escaped : (bytes : List ℕ) → All (λ b. 33 ≤ b) (escaped bytes)
graphs_of-escaped [] = All-nil (λ b. 33 ≤ b)
graphs_of-escaped (byte ∷ bytes) = All-append (λ b. 33 ≤ b) (escaped_byte byte) (escaped bytes) (graphs_of-escaped_byte byte) (graphs_of-escaped bytes)

some-escaped_byte : (byte : ℕ) → 0 < length (escaped_byte byte)
unfolding escaped_byte
some-escaped_byte byte = elim (cases_Bool (is_plain byte)) [ inl plain ↦ rw plain (omega arith) | inr not_plain ↦ rw not_plain (omega arith) ]

pub some-escaped : (bytes : List ℕ) → 0 < length bytes → 0 < length (escaped bytes)
some-escaped [] some = absurd (omega (arith, some))
some-escaped (byte ∷ bytes) some = omega (arith, some-escaped_byte byte, length-append (escaped_byte byte) (escaped bytes))
