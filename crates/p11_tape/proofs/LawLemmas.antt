-- What is read of a tape is what the grammar gives it to mean.
use Rattle.std.proofs.Common.{◌≡◌, ℕ, suc, zero, ◌<◌, ◌≤◌, ◌+◌, ◌-◌, ◌%◌, ◌^◌, Bool, true, false, ◌&&◌, cond, List, [], ◌∷◌, ◌++◌, length, take, drop, get_or, sum, Option, Some, None, Result, Ok, Err, ◌⊎◌, inl, inr, ltb, leb, eqb, refl, sym, ap, arith, ◌∙◌}
use Rattle.std.specs.Prelude.{All}
use Rattle.std.specs.List.{flat_map, enumerate_from}
use Rattle.std.proofs.lemmas.Bool.{eqb-true, ltb-false, leb-false, or_parts, not-false, cases_lt, cases_Bool, lt-ltb}
use Rattle.std.proofs.lemmas.List.{append_assoc, drop_at, take_at, length-append, length-drop, length-take-le, get_or-drop, get_or_past}
use Rattle.p11_tape.specs.declared.fault.TapeFault.{TapeFault}
use Rattle.p11_tape.specs.declared.fault.TapeFaultKind.TheVariants.{Memory, Stray, Count, Short, Wrap, Sum}
use Rattle.p11_tape.specs.Laws.Block.{Block, block_bytes, before_checksum, placed_by}
use Rattle.p11_tape.specs.Laws.Tape.{IsFront, IsEnd, Means, start_by}
use Rattle.p11_tape.specs.Fault.{wrong_of, count_at, address_at}
use Rattle.p11_tape.specs.Reading.{Meaning, reading, read_on, block_read, and_then, end_with, placed_at, start_of}
use Rattle.p11_tape.specs.Calls.Begins.{IsWhole, NoZeroFirst}
use Rattle.p11_tape.proofs.BlockLemmas.{IsBytes, Splits, block_there, nothing_wrong, first_of_block, length-block_bytes, count_at-block, address_at-block}
use Rattle.p11_tape.proofs.ReadLemmas.{same_meaning, and_then_nothing, and_then_more, zeros_read, last_read, data_read, wrong_read, last_of, other_of, ended}

-- A block begins with no zero, and is followed by what is after it.
no_zero_block : (b : Block) (x : List ℕ) → NoZeroFirst (block_bytes b ++ x)
no_zero_block b x some is_zero = absurd (omega (arith, first_of_block b x))

some_block : (b : Block) (x : List ℕ) → 0 < length (block_bytes b ++ x)
some_block b x = omega (arith, length-append (block_bytes b) x, length-block_bytes b)

after_block : (b : Block) (x : List ℕ) → drop (count_at (block_bytes b ++ x) + 1) (block_bytes b ++ x) ≡ x
after_block b x = drop_at (block_bytes b) x _ (omega (arith, length-block_bytes b, count_at-block b x))

-- Its data are what it places.
data_of_block : (b : Block) (x : List ℕ) → take (length b.bytes) (drop 6 (block_bytes b ++ x)) ≡ b.bytes
unfolding block_bytes before_checksum
data_of_block b x = ap (take (length b.bytes)) (append_assoc b.bytes (b.checksum ∷ []) x) ∙ take_at b.bytes (b.checksum ∷ x) (length b.bytes) refl

placed_by_block : (b : Block) (x : List ℕ) → placed_at (block_bytes b ++ x) ≡ placed_by b
placed_by_block b x =
    let many : count_at (block_bytes b ++ x) - 6 ≡ length b.bytes = omega (arith, count_at-block b x) in
    ap (λ a. enumerate_from a (take (count_at (block_bytes b ++ x) - 6) (drop 6 (block_bytes b ++ x)))) (address_at-block b x) ∙ ap (λ n. enumerate_from b.address (take n (drop 6 (block_bytes b ++ x)))) many ∙ ap (enumerate_from b.address) (data_of_block b x)

-- what is read of a front, and then the rest
record FrontRead (at : ℕ) (tape : List ℕ) (blocks : List Block) (rest : List ℕ) : Type 0 where
  behind : ℕ
  reads : read_on 0 at tape ≡ and_then (flat_map placed_by blocks) (read_on 0 behind rest)

front_read : (at : ℕ) (tape : List ℕ) (blocks : List Block) (rest : List ℕ) → IsFront tape blocks rest → FrontRead at tape blocks rest
front_read at tape [] rest (n, e) = record { behind = at + n; reads = ap (read_on 0 at) e ∙ zeros_read n at rest ∙ sym (and_then_nothing _) }
front_read at tape (b ∷ blocks) rest (n, after, is, e, more) =
    let x = block_bytes b ++ after in
    let k = at + n + (count_at x + 1) in
    let placing = data_read (at + n) x (no_zero_block b after) (some_block b after) (nothing_wrong (at + n) b after is.is_block) (omega (arith, count_at-block b after, is.has_data)) in
    let inner = front_read k after blocks rest more in
    record {
      behind = inner.behind;
      reads = ap (read_on 0 at) e ∙ zeros_read n at x ∙ placing ∙ ap (λ p. and_then p (read_on 0 k (drop (count_at x + 1) x))) (placed_by_block b after) ∙ ap (λ y. and_then (placed_by b) (read_on 0 k y)) (after_block b after) ∙ ap (and_then (placed_by b)) inner.reads ∙ and_then_more (placed_by b) (flat_map placed_by blocks) (read_on 0 inner.behind rest);
    }

end_read : (at : ℕ) (rest : List ℕ) (last : Option Block) → IsEnd rest last → read_on 0 at rest ≡ end_with (start_by last)
unfolding read_on
end_read at rest None e = ap (read_on 0 at) e
end_read at rest (Some b) (after, is, e) =
    let six : count_at (block_bytes b ++ after) ≡ 6 = omega (arith, count_at-block b after, is.no_data) in
    ap (read_on 0 at) e ∙ last_read at (block_bytes b ++ after) (no_zero_block b after) (some_block b after) (nothing_wrong at b after is.is_block) six ∙ ap (λ a. end_with (start_of a)) (address_at-block b after)

-- A tape of the grammar is read as what it means.
pub means_read : (tape : List ℕ) (m : Meaning) → Means tape m → reading tape ≡ Ok m
means_read tape m h =
    let front = front_read 0 tape h.blocks h.is_tape.rest h.is_tape.front in
    front.reads ∙ ap (and_then (flat_map placed_by h.blocks)) (end_read front.behind h.is_tape.rest h.last h.is_tape.ends) ∙ ended (flat_map placed_by h.blocks) (start_by h.last) ∙ same_meaning _ m.placed _ m.start (sym h.placed_is) (sym h.start_is)

-- bytes with which nothing is wrong
record IsRight (bytes : List ℕ) : Type 0 where
  whole : IsWhole bytes
  within : address_at bytes + (count_at bytes - 6) ≤ 2 ^ 16
  zero_sum : sum (take (count_at bytes + 1) bytes) % 2 ^ 8 ≡ 0

passed : (b : Bool) (f : TapeFault) (rest : Option TapeFault) → cond b (Some f) rest ≡ None → (b ≡ false) × (rest ≡ None)
passed true f rest e = absurd (cc)
passed false f rest e = (refl, e)

-- an and that is false, of two tests
unless : (x y : Bool) → (x && y) ≡ false → x ≡ true → y ≡ false
unless true y e t = e
unless false y e t = absurd (cc)

right_from_none : (at : ℕ) (bytes : List ℕ) → wrong_of at bytes ≡ None → IsRight bytes
unfolding wrong_of
right_from_none at bytes none =
    let first = passed _ _ _ none in
    let second = passed _ _ _ first.1 in
    let count = passed _ _ _ second.1 in
    let short = passed _ _ _ count.1 in
    let wrap = passed _ _ _ short.1 in
    let sums = passed _ _ _ wrap.1 in
    let there = or_parts (ltb (length bytes) 4) (leb (length bytes) (count_at bytes)) short.0 in
    let four : 4 ≤ length bytes = ltb-false (length bytes) 4 there.0 in
    record {
      whole = record {
        first = eqb-true (get_or bytes 0 0) 1 (not-false _ first.0);
        second = eqb-true (get_or bytes 1 0) 0 (not-false _ (unless (ltb 1 (length bytes)) _ second.0 (lt-ltb 1 (length bytes) (omega arith))));
        header = ltb-false (count_at bytes) 6 (unless (ltb 3 (length bytes)) _ count.0 (lt-ltb 3 (length bytes) (omega arith)));
        whole = leb-false (length bytes) (count_at bytes) there.1;
      };
      within = ltb-false (2 ^ 16) (address_at bytes + (count_at bytes - 6)) wrap.0;
      zero_sum = eqb-true (sum (take (count_at bytes + 1) bytes) % 2 ^ 8) 0 (not-false _ sums.0);
    }

wrong_cases : (o : Option TapeFault) → (o ≡ None) ⊎ ((f : TapeFault) × (o ≡ Some f))
wrong_cases None = inl refl
wrong_cases (Some f) = inr (f, refl)

bytes_from_all : (bytes : List ℕ) → All (λ b. b < 256) bytes → IsBytes bytes
bytes_from_all bytes h i = elim (cases_lt i (length bytes)) [ inl less ↦ h i 0 less | inr past ↦ rw (get_or_past bytes i 0 past) (omega arith) ]

err_once : (f g : TapeFault) → ◌≡◌ {A = Result Meaning TapeFault} (Err f) (Err g) → f ≡ g
err_once f g e = cc

ok_not_err : (m : Meaning) (f : TapeFault) → ◌≡◌ {A = Result Meaning TapeFault} (Ok m) (Err f) → ⊥
ok_not_err m f e = cc

err_not_ok : (f : TapeFault) (m : Meaning) → ◌≡◌ {A = Result Meaning TapeFault} (Err f) (Ok m) → ⊥
err_not_ok f m e = cc

and_then_err : (placed : List (ℕ × ℕ)) (read : Result Meaning TapeFault) (f : TapeFault) → and_then placed read ≡ Err f → read ≡ Err f
unfolding and_then
and_then_err placed (Ok m) f e = absurd (cc)
and_then_err placed (Err g) f e = e

-- what was read and then the rest means something only if the rest does
ok_once : (m n : Meaning) → ◌≡◌ {A = Result Meaning TapeFault} (Ok m) (Ok n) → m ≡ n
ok_once m n e = cc

record Rest (placed : List (ℕ × ℕ)) (read : Result Meaning TapeFault) (m : Meaning) : Type 0 where
  rest : Meaning
  reads : read ≡ Ok rest
  placed_is : m.placed ≡ placed ++ rest.placed
  start_is : m.start ≡ rest.start

rest_of : (placed : List (ℕ × ℕ)) (read : Result Meaning TapeFault) (m : Meaning) → and_then placed read ≡ Ok m → Rest placed read m
unfolding and_then
rest_of placed (Ok rest) m e =
    let same = ok_once (record { placed = placed ++ rest.placed; start = rest.start }) m e in
    record { rest = rest; reads = refl; placed_is = ap (λ x. x.placed) (sym same); start_is = ap (λ x. x.start) (sym same) }
rest_of placed (Err f) m e = absurd (cc)

-- A zero before a tape changes nothing.
zero_front : (tape : List ℕ) (blocks : List Block) (rest : List ℕ) → IsFront tape blocks rest → IsFront (0 ∷ tape) blocks rest
zero_front tape [] rest (n, e) = (suc n, ap (λ xs. 0 ∷ xs) e)
zero_front tape (b ∷ blocks) rest (n, after, is, e, more) = (suc n, after, is, ap (λ xs. 0 ∷ xs) e, more)

means_zero : (tape : List ℕ) (m : Meaning) → Means tape m → Means (0 ∷ tape) m
means_zero tape m h = record {
  blocks = h.blocks;
  last = h.last;
  is_tape = record { rest = h.is_tape.rest; front = zero_front tape h.blocks h.is_tape.rest h.is_tape.front; ends = h.is_tape.ends };
  placed_is = h.placed_is;
  start_is = h.start_is;
}

-- At its end a tape means nothing more.
means_end : (m : Meaning) → end_with None ≡ Ok m → Means [] m
means_end m e =
    let same = ok_once (record { placed = []; start = None }) m e in
    record { blocks = []; last = None; is_tape = record { rest = []; front = (0, refl); ends = refl }; placed_is = ap (λ x. x.placed) (sym same); start_is = ap (λ x. x.start) (sym same) }

-- The block that is there is the last,
means_last : (at : ℕ) (bytes : List ℕ) (m : Meaning) (content after : List ℕ) → NoZeroFirst bytes → 0 < length bytes → wrong_of at bytes ≡ None → count_at bytes ≡ 6 → Splits bytes (address_at bytes) content after → length content ≡ 0 → read_on 0 at bytes ≡ Ok m → Means bytes m
means_last at bytes m content after no_zero some right six s empty e =
    let b : Block = record { address = address_at bytes; bytes = content; checksum = s.checksum } in
    let same = ok_once (record { placed = []; start = start_of (address_at bytes) }) m (sym (last_read at bytes no_zero some right six) ∙ e) in
    record {
      blocks = [];
      last = Some b;
      is_tape = record { rest = bytes; front = (0, refl); ends = (after, record { is_block = s.is_block; no_data = omega arith }, s.splits) };
      placed_is = ap (λ x. x.placed) (sym same);
      start_is = ap (λ x. x.start) (sym same);
    }

-- or has data and is followed by the rest of the tape.
means_data : (bytes after content : List ℕ) (address : ℕ) (m n : Meaning) → Splits bytes address content after → 0 < length content → Means after n → m.placed ≡ enumerate_from address content ++ n.placed → m.start ≡ n.start → Means bytes m
means_data bytes after content address m n s some h placed start =
    let b : Block = record { address = address; bytes = content; checksum = s.checksum } in
    record {
      blocks = b ∷ h.blocks;
      last = h.last;
      is_tape = record { rest = h.is_tape.rest; front = (0, after, record { is_block = s.is_block; has_data = omega arith }, s.splits, h.is_tape.front); ends = h.is_tape.ends };
      placed_is = placed ∙ ap (λ xs. enumerate_from address content ++ xs) h.placed_is;
      start_is = start ∙ h.start_is;
    }

-- what is less than n bytes means what is read
abbrev Means_below : ℕ → Type 0
Means_below n = (at : ℕ) (tape : List ℕ) (m : Meaning) → length tape < n → IsBytes tape → read_on 0 at tape ≡ Ok m → Means tape m

means_block : (n at : ℕ) (bytes : List ℕ) (m : Meaning) → Means_below n → length bytes ≤ n → IsBytes bytes → NoZeroFirst bytes → 0 < length bytes → wrong_of at bytes ≡ None → read_on 0 at bytes ≡ Ok m → Means bytes m
means_block n at bytes m next less fits no_zero some none e =
    let right = right_from_none at bytes none in
    let s = block_there bytes fits right.whole right.within right.zero_sum in
    let k = count_at bytes in
    let content = take (k - 6) (drop 6 bytes) in
    let after = drop (k + 1) bytes in
    let header : 6 ≤ k = right.whole.header in
    let whole : k < length bytes = right.whole.whole in
    let content_length : length content ≡ k - 6 = length-take-le (k - 6) (drop 6 bytes) (omega (arith, length-drop 6 bytes)) in
    elim (cases_lt 6 k) [
      | inl more ↦
          let rest = rest_of (placed_at bytes) (read_on 0 (at + (k + 1)) after) m (sym (data_read at bytes no_zero some none more) ∙ e) in
          let inner = next (at + (k + 1)) after rest.rest (omega (arith, length-drop (k + 1) bytes)) (λ i. omega (arith, fits (k + 1 + i), get_or-drop (k + 1) bytes i)) rest.reads in
          means_data bytes after content (address_at bytes) m rest.rest s (omega arith) inner rest.placed_is rest.start_is
      | inr none_left ↦ means_last at bytes m content after no_zero some none (omega arith) s (omega arith) e
    ]

means_by : (n : ℕ) → Means_below n
unfolding read_on
means_by zero at tape m less fits e = absurd (omega arith)
means_by (suc n) at [] m less fits e = means_end m e
means_by (suc n) at (zero ∷ rest) m less fits e = means_zero rest m (means_by n (at + 1) rest m (omega arith) (λ i. fits (suc i)) e)
means_by (suc n) at (suc b ∷ rest) m less fits e =
    elim (wrong_cases (wrong_of at (suc b ∷ rest))) [
      | inl none ↦ means_block n at (suc b ∷ rest) m (means_by n) (omega arith) fits (λ _ z. absurd (omega arith)) (omega arith) none e
      | inr wrong ↦ absurd (err_not_ok wrong.0 m (sym (wrong_read at (suc b ∷ rest) wrong.0 (λ _ z. absurd (omega arith)) (omega arith) wrong.1) ∙ e))
    ]

-- A tape means by the grammar what is read.
pub read_means : (tape : List ℕ) (m : Meaning) → All (λ b. b < 256) tape → reading tape ≡ Ok m → Means tape m
read_means tape m fits e = means_by (suc (length tape)) 0 tape m (omega arith) (bytes_from_all tape fits) e

-- A fault of the bytes is no want of memory.
some_once : (e f : TapeFault) → Some e ≡ Some f → e ≡ f
some_once e f h = cc

stray_apart : Stray ≡ Memory → ⊥
stray_apart e = cc

count_apart : Count ≡ Memory → ⊥
count_apart e = cc

short_apart : Short ≡ Memory → ⊥
short_apart e = cc

wrap_apart : Wrap ≡ Memory → ⊥
wrap_apart e = cc

sum_apart : Sum ≡ Memory → ⊥
sum_apart e = cc

-- a rule gives a fault that isn't for want of memory, and so do the rules after it
NoMemory : Option TapeFault → Type 0
NoMemory found = (f : TapeFault) → found ≡ Some f → f.kind ≡ Memory → ⊥

rule : (b : Bool) (e : TapeFault) (rest : Option TapeFault) → (e.kind ≡ Memory → ⊥) → NoMemory rest → NoMemory (cond b (Some e) rest)
unfolding NoMemory
rule true e rest apart next f h m = apart (ap (λ x. x.kind) (some_once e f h) ∙ m)
rule false e rest apart next f h m = next f h m

last_rule : NoMemory None
unfolding NoMemory
last_rule f h m = cc

wrong_kind : (at : ℕ) (bytes : List ℕ) → NoMemory (wrong_of at bytes)
unfolding wrong_of
wrong_kind at bytes = search (rule, last_rule, stray_apart, count_apart, short_apart, wrap_apart, sum_apart) depth 9

block_kind : (wrong : Option TapeFault) (bytes : List ℕ) (rest : Result Meaning TapeFault) (f : TapeFault) → NoMemory wrong → (rest ≡ Err f → f.kind ≡ Memory → ⊥) → block_read wrong bytes rest ≡ Err f → f.kind ≡ Memory → ⊥
unfolding NoMemory
block_kind (Some g) bytes rest f apart next e m = apart g refl (ap (λ x. x.kind) (err_once g f e) ∙ m)
block_kind None bytes rest f apart next e m = elim (cases_Bool (eqb (count_at bytes) 6)) [
  | inl six ↦ ok_not_err _ f (sym (last_of _ _ _ six) ∙ e)
  | inr more ↦ next (and_then_err (placed_at bytes) rest f (sym (other_of _ _ _ more) ∙ e)) m
]

read_kind : (n at : ℕ) (bytes : List ℕ) (f : TapeFault) → read_on n at bytes ≡ Err f → f.kind ≡ Memory → ⊥
unfolding read_on
read_kind n at [] f e m = ok_not_err _ f e
read_kind (suc n) at (b ∷ rest) f e m = read_kind n (at + 1) rest f e m
read_kind zero at (zero ∷ rest) f e m = read_kind zero (at + 1) rest f e m
read_kind zero at (suc b ∷ rest) f e m = block_kind (wrong_of at (suc b ∷ rest)) (suc b ∷ rest) (read_on (count_at (suc b ∷ rest)) (at + 1) rest) f (wrong_kind at (suc b ∷ rest)) (read_kind (count_at (suc b ∷ rest)) (at + 1) rest f) e m

pub fault_no_memory : (tape : List ℕ) (f : TapeFault) → reading tape ≡ Err f → f.kind ≡ Memory → ⊥
fault_no_memory tape f e m = read_kind 0 0 tape f e m

-- of a tape, a fault that is of the bytes or for want of memory is the second
pub only_memory : (tape : List ℕ) (m : Meaning) (f memory : TapeFault) → reading tape ≡ Ok m → (f ≡ memory) ⊎ (reading tape ≡ Err f) → f ≡ memory
only_memory tape m f memory h (inl e) = e
only_memory tape m f memory h (inr wrong) = absurd (ok_not_err m f (sym h ∙ wrong))
