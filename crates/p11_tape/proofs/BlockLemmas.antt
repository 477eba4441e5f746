-- A block is known from its bytes.
use Rattle.std.proofs.Common.{◌≡◌, ℕ, suc, zero, ◌<◌, ◌≤◌, ◌+◌, ◌-◌, ◌*◌, ◌/◌, ◌%◌, ◌^◌, List, [], ◌∷◌, ◌++◌, length, take, drop, get_or, sum, None, false, ltb, refl, sym, ap, arith, ◌∙◌, eq-eqb}
use Rattle.std.proofs.lemmas.Bool.{and_right, le-ltb, lt-leb}
use Rattle.std.proofs.lemmas.List.{length-append, take_at, length-take-le}
use Rattle.p11_tape.specs.Laws.Block.{Block, block_bytes, before_checksum, IsBlock}
use Rattle.p11_tape.specs.Fault.{wrong_of, count_at, address_at}
use Rattle.p11_tape.specs.Calls.Begins.{IsWhole}

-- each element is a byte
abbrev pub IsBytes : List ℕ → Type 0
IsBytes bytes = (i : ℕ) → get_or bytes i 0 < 256

pub length-block_bytes : (b : Block) → length (block_bytes b) ≡ 7 + length b.bytes
unfolding block_bytes before_checksum
length-block_bytes b = omega (arith, length-append b.bytes (b.checksum ∷ []))

word_again : (n : ℕ) → n % 256 + 256 * (n / 256) ≡ n
word_again n = omega arith

pub count_at-block : (b : Block) (x : List ℕ) → count_at (block_bytes b ++ x) ≡ 6 + length b.bytes
unfolding block_bytes before_checksum count_at
count_at-block b x = word_again (6 + length b.bytes)

pub address_at-block : (b : Block) (x : List ℕ) → address_at (block_bytes b ++ x) ≡ b.address
unfolding block_bytes before_checksum address_at
address_at-block b x = word_again b.address

pub first_of_block : (b : Block) (x : List ℕ) → get_or (block_bytes b ++ x) 0 0 ≡ 1
unfolding block_bytes before_checksum
first_of_block b x = refl

second_of_block : (b : Block) (x : List ℕ) → get_or (block_bytes b ++ x) 1 0 ≡ 0
unfolding block_bytes before_checksum
second_of_block b x = refl

pub whole_block : (b : Block) (x : List ℕ) → IsWhole (block_bytes b ++ x)
whole_block b x = record {
  first = first_of_block b x;
  second = second_of_block b x;
  header = omega (arith, count_at-block b x);
  whole = omega (arith, count_at-block b x, length-append (block_bytes b) x, length-block_bytes b);
}

-- nothing is wrong with such bytes
pub wrong_none : (at : ℕ) (bytes : List ℕ) → IsWhole bytes → address_at bytes + (count_at bytes - 6) ≤ 2 ^ 16 → sum (take (count_at bytes + 1) bytes) % 2 ^ 8 ≡ 0 → wrong_of at bytes ≡ None
unfolding wrong_of
wrong_none at bytes h within zero_sum =
    rw (
      eq-eqb (get_or bytes 0 0) 1 h.first,
      eq-eqb (get_or bytes 1 0) 0 h.second,
      and_right (ltb 1 (length bytes)) false refl,
      le-ltb (count_at bytes) 6 h.header,
      and_right (ltb 3 (length bytes)) false refl,
      le-ltb (length bytes) 4 (omega arith),
      lt-leb (length bytes) (count_at bytes) h.whole,
      le-ltb (2 ^ 16) (address_at bytes + (count_at bytes - 6)) within,
      eq-eqb (sum (take (count_at bytes + 1) bytes) % 2 ^ 8) 0 zero_sum,
    ) refl

-- Nothing is wrong where a block begins.
pub nothing_wrong : (at : ℕ) (b : Block) (x : List ℕ) → IsBlock b → wrong_of at (block_bytes b ++ x) ≡ None
nothing_wrong at b x h =
    let whole : take (count_at (block_bytes b ++ x) + 1) (block_bytes b ++ x) ≡ block_bytes b = take_at (block_bytes b) x _ (omega (arith, length-block_bytes b, count_at-block b x)) in
    let zero_sum : sum (take (count_at (block_bytes b ++ x) + 1) (block_bytes b ++ x)) % 2 ^ 8 ≡ 0 = ap (λ bytes. sum bytes % 2 ^ 8) whole ∙ h.zero_sum in
    wrong_none at (block_bytes b ++ x) (whole_block b x) (omega (arith, count_at-block b x, address_at-block b x, h.within)) zero_sum

split_at : (k : ℕ) (more : List ℕ) → k < length more → more ≡ take k more ++ get_or more k 0 ∷ [] ++ drop (suc k) more
split_at zero [] h = absurd (omega arith)
split_at (suc k) [] h = absurd (omega arith)
split_at zero (b ∷ more) h = refl
split_at (suc k) (b ∷ more) h = ap (λ xs. b ∷ xs) (split_at k more (omega arith))

-- the bytes of a header, and what follows, are a block and what follows it
header_splits : (lo hi al ah k : ℕ) (more : List ℕ) → lo < 256 → al < 256 → lo + 256 * hi ≡ 6 + k → k < length more →
    1 ∷ 0 ∷ lo ∷ hi ∷ al ∷ ah ∷ more ≡ block_bytes (record { address = al + 256 * ah; bytes = take k more; checksum = get_or more k 0 }) ++ drop (suc k) more
unfolding block_bytes before_checksum
header_splits lo hi al ah k more lo_fits al_fits count whole =
    let len : length (take k more) ≡ k = length-take-le k more (omega arith) in
    let count_low : lo ≡ (6 + length (take k more)) % 256 = omega arith in
    let count_high : hi ≡ (6 + length (take k more)) / 256 = omega arith in
    let low : al ≡ (al + 256 * ah) % 256 = omega arith in
    let high : ah ≡ (al + 256 * ah) / 256 = omega arith in
    let content = split_at k more whole in
    cc

-- bytes are a sound block and what is after it
pub record Splits (bytes : List ℕ) (address : ℕ) (content after : List ℕ) : Type 0 where
  pub checksum : ℕ
  pub is_block : IsBlock (record { address = address; bytes = content; checksum = checksum })
  pub splits : bytes ≡ block_bytes (record { address = address; bytes = content; checksum = checksum }) ++ after

-- bytes that are whole, fit and sum to 0 begin with a block
begins : (lo hi al ah k : ℕ) (more : List ℕ) → lo < 256 → hi < 256 → al < 256 → ah < 256 → lo + 256 * hi ≡ 6 + k → k < length more →
    al + 256 * ah + k ≤ 2 ^ 16 → sum (take (7 + k) (1 ∷ 0 ∷ lo ∷ hi ∷ al ∷ ah ∷ more)) % 2 ^ 8 ≡ 0 →
    Splits (1 ∷ 0 ∷ lo ∷ hi ∷ al ∷ ah ∷ more) (al + 256 * ah) (take k more) (drop (suc k) more)
begins lo hi al ah k more lo_fits hi_fits al_fits ah_fits count whole within zero_sum =
    let len : length (take k more) ≡ k = length-take-le k more (omega arith) in
    let b : Block = record { address = al + 256 * ah; bytes = take k more; checksum = get_or more k 0 } in
    let splits = header_splits lo hi al ah k more lo_fits al_fits count whole in
    let same : take (7 + k) (1 ∷ 0 ∷ lo ∷ hi ∷ al ∷ ah ∷ more) ≡ block_bytes b = ap (take (7 + k)) splits ∙ take_at (block_bytes b) (drop (suc k) more) (7 + k) (omega (arith, length-block_bytes b)) in
    record {
      checksum = get_or more k 0;
      is_block = record {
        count_fits = omega arith;
        address_fits = omega arith;
        within = omega arith;
        zero_sum = ap (λ bytes. sum bytes % 2 ^ 8) (sym same) ∙ zero_sum;
      };
      splits = splits;
    }

-- the same of bytes with a count of n
there : (a b lo hi al ah n : ℕ) (more : List ℕ) → a ≡ 1 → b ≡ 0 → lo < 256 → hi < 256 → al < 256 → ah < 256 → lo + 256 * hi ≡ n → 6 ≤ n → n < 6 + length more →
    al + 256 * ah + (n - 6) ≤ 2 ^ 16 → sum (take (n + 1) (a ∷ b ∷ lo ∷ hi ∷ al ∷ ah ∷ more)) % 2 ^ 8 ≡ 0 →
    Splits (a ∷ b ∷ lo ∷ hi ∷ al ∷ ah ∷ more) (al + 256 * ah) (take (n - 6) more) (drop (n + 1) (a ∷ b ∷ lo ∷ hi ∷ al ∷ ah ∷ more))
there a b lo hi al ah n more first second lo_fits hi_fits al_fits ah_fits count header whole within zero_sum =
    let beyond : n + 1 ≡ suc (suc (suc (suc (suc (suc (suc (n - 6))))))) = omega arith in
    let all : n + 1 ≡ 7 + (n - 6) = omega arith in
    let after : drop (n + 1) (a ∷ b ∷ lo ∷ hi ∷ al ∷ ah ∷ more) ≡ drop (suc (n - 6)) more = ap (λ m. drop m (a ∷ b ∷ lo ∷ hi ∷ al ∷ ah ∷ more)) beyond in
    let summed : sum (take (7 + (n - 6)) (1 ∷ 0 ∷ lo ∷ hi ∷ al ∷ ah ∷ more)) % 2 ^ 8 ≡ 0 = rw (all, first, second) at zero_sum in
    rw (after, first, second) (begins lo hi al ah (n - 6) more lo_fits hi_fits al_fits ah_fits (omega arith) (omega arith) within summed)

-- What is whole, goes no further than memory and sums to 0 is a block.
pub block_there : (bytes : List ℕ) → IsBytes bytes → IsWhole bytes → address_at bytes + (count_at bytes - 6) ≤ 2 ^ 16 → sum (take (count_at bytes + 1) bytes) % 2 ^ 8 ≡ 0 →
    Splits bytes (address_at bytes) (take (count_at bytes - 6) (drop 6 bytes)) (drop (count_at bytes + 1) bytes)
unfolding count_at address_at
block_there (a ∷ b ∷ lo ∷ hi ∷ al ∷ ah ∷ more) fits h within zero_sum =
    there a b lo hi al ah (lo + 256 * hi) more h.first h.second (fits 2) (fits 3) (fits 4) (fits 5) refl h.header (omega (arith, h.whole)) within zero_sum
block_there bytes fits h within zero_sum = absurd (omega arith)
