-- What has been read of a tape.
use Rattle.std.proofs.Common.{◌≡◌, ℕ, zero, suc, ◌<◌, ◌≤◌, ◌+◌, ◌-◌, List, [], ◌∷◌, ◌++◌, length, take, drop, replicate, get_or, set, add-zero, Option, Some, None, Ok, Err, Result, Bool, true, false, cond, eqb, eq-eqb, refl, sym, ap, arith, ◌∙◌}
use Rattle.std.specs.List.{enumerate_from}
use Rattle.std.proofs.lemmas.Bool.{ne_eqb}
use Rattle.std.proofs.lemmas.List.{append_assoc, append-nil, length-append, length-drop, length-replicate, length-take-le, take_more, take_more_set}
use Rattle.p11_tape.specs.declared.fault.TapeFault.{TapeFault}
use Rattle.p11_tape.specs.Fault.{wrong_of, count_at, address_at}
use Rattle.p11_tape.specs.Reading.{Meaning, reading, read_on, block_read, and_then, end_with, placed_at, start_of}
use Rattle.p11_tape.specs.Calls.Begins.{NoZeroFirst, BeginsWith, BeginsWithZeros}

pub same_meaning : (p q : List (ℕ × ℕ)) (s t : Option ℕ) → p ≡ q → s ≡ t → ◌≡◌ {A = Result Meaning TapeFault} (Ok (record { placed = p; start = s })) (Ok (record { placed = q; start = t }))
same_meaning p q s t e f = cc

pub and_then_nothing : (r : Result Meaning TapeFault) → and_then [] r ≡ r
unfolding and_then
and_then_nothing (Ok m) = refl
and_then_nothing (Err f) = refl

pub and_then_more : (p q : List (ℕ × ℕ)) (r : Result Meaning TapeFault) → and_then p (and_then q r) ≡ and_then (p ++ q) r
unfolding and_then
and_then_more p q (Ok m) = same_meaning (p ++ (q ++ m.placed)) ((p ++ q) ++ m.placed) m.start m.start (sym (append_assoc p q m.placed)) refl
and_then_more p q (Err f) = refl

-- Bytes of a block are passed over.
pass : (n at : ℕ) (bytes : List ℕ) → read_on n at bytes ≡ read_on 0 (at + n) (drop n bytes)
unfolding read_on
pass zero at bytes = ap (λ k. read_on 0 k bytes) (sym (add-zero at))
pass (suc n) at [] = refl
pass (suc n) at (b ∷ rest) =
    let further : at + 1 + n ≡ at + suc n = omega arith in
    pass n (at + 1) rest ∙ ap (λ k. read_on 0 k (drop n rest)) further

-- So are zeros between blocks.
pub zeros_read : (n at : ℕ) (rest : List ℕ) → read_on 0 at (replicate n 0 ++ rest) ≡ read_on 0 (at + n) rest
unfolding read_on
zeros_read zero at rest = ap (λ k. read_on 0 k rest) (sym (add-zero at))
zeros_read (suc n) at rest =
    let further : at + 1 + n ≡ at + suc n = omega arith in
    zeros_read n (at + 1) rest ∙ ap (λ k. read_on 0 k rest) further

-- Where no zero comes, a block is read.
block_comes : (at : ℕ) (bytes : List ℕ) → NoZeroFirst bytes → 0 < length bytes →
    read_on 0 at bytes ≡ block_read (wrong_of at bytes) bytes (read_on 0 (at + (count_at bytes + 1)) (drop (count_at bytes + 1) bytes))
unfolding read_on
block_comes at [] no_zero some = absurd (omega arith)
block_comes at (zero ∷ rest) no_zero some = absurd (no_zero some refl)
block_comes at (suc b ∷ rest) no_zero some =
    let n = count_at (suc b ∷ rest) in
    let one : n + 1 ≡ suc n = omega arith in
    let further : at + 1 + n ≡ at + (n + 1) = omega arith in
    let beyond : drop n rest ≡ drop (n + 1) (suc b ∷ rest) = ap (λ k. drop k (suc b ∷ rest)) (sym one) in
    ap (block_read (wrong_of at (suc b ∷ rest)) (suc b ∷ rest)) (pass n (at + 1) rest ∙ ap (λ k. read_on 0 k (drop n rest)) further ∙ ap (λ xs. read_on 0 (at + (n + 1)) xs) beyond)

-- a block with nothing wrong
right_block : (at : ℕ) (bytes : List ℕ) → NoZeroFirst bytes → 0 < length bytes → wrong_of at bytes ≡ None →
    read_on 0 at bytes ≡ block_read None bytes (read_on 0 (at + (count_at bytes + 1)) (drop (count_at bytes + 1) bytes))
right_block at bytes no_zero some right =
    block_comes at bytes no_zero some ∙ ap (λ wrong. block_read wrong bytes (read_on 0 (at + (count_at bytes + 1)) (drop (count_at bytes + 1) bytes))) right

pub last_of : (b : Bool) (x y : Result Meaning TapeFault) → b ≡ true → cond b x y ≡ x
last_of b x y e = cc

pub other_of : (b : Bool) (x y : Result Meaning TapeFault) → b ≡ false → cond b x y ≡ y
other_of b x y e = cc

pub last_read : (at : ℕ) (bytes : List ℕ) → NoZeroFirst bytes → 0 < length bytes → wrong_of at bytes ≡ None → count_at bytes ≡ 6 → read_on 0 at bytes ≡ end_with (start_of (address_at bytes))
last_read at bytes no_zero some right six = right_block at bytes no_zero some right ∙ last_of (eqb (count_at bytes) 6) _ _ (eq-eqb (count_at bytes) 6 six)

pub data_read : (at : ℕ) (bytes : List ℕ) → NoZeroFirst bytes → 0 < length bytes → wrong_of at bytes ≡ None → 6 < count_at bytes →
    read_on 0 at bytes ≡ and_then (placed_at bytes) (read_on 0 (at + (count_at bytes + 1)) (drop (count_at bytes + 1) bytes))
data_read at bytes no_zero some right more = right_block at bytes no_zero some right ∙ other_of (eqb (count_at bytes) 6) _ _ (ne_eqb (count_at bytes) 6 (λ e. omega arith))

pub wrong_read : (at : ℕ) (bytes : List ℕ) (f : TapeFault) → NoZeroFirst bytes → 0 < length bytes → wrong_of at bytes ≡ Some f → read_on 0 at bytes ≡ Err f
wrong_read at bytes f no_zero some wrong =
    block_comes at bytes no_zero some ∙ ap (λ w. block_read w bytes (read_on 0 (at + (count_at bytes + 1)) (drop (count_at bytes + 1) bytes))) wrong

-- A tape means these data bytes and then what this rest of it means.
abbrev pub HasRead : List ℕ → List ℕ → List (ℕ × ℕ) → Type 0
HasRead tape rest placed = (reading tape ≡ and_then placed (read_on 0 (length tape - length rest) rest)) × (length rest ≤ length tape)

pub read_nothing : (tape : List ℕ) → HasRead tape tape []
read_nothing tape =
    let none : 0 ≡ length tape - length tape = omega arith in
    (ap (λ at. read_on 0 at tape) none ∙ sym (and_then_nothing _), omega arith)

pub read_zeros : (tape bytes rest : List ℕ) (placed : List (ℕ × ℕ)) → HasRead tape bytes placed → BeginsWithZeros bytes rest → HasRead tape rest placed
read_zeros tape bytes rest placed h z =
    let len : length bytes ≡ z.zeros + length rest = ap length z.splits ∙ length-append (replicate z.zeros 0) rest ∙ ap (λ n. n + length rest) (length-replicate z.zeros 0) in
    let at : length tape - length bytes + z.zeros ≡ length tape - length rest = omega (arith, h.1) in
    let same : read_on 0 (length tape - length bytes) bytes ≡ read_on 0 (length tape - length rest) rest =
    ap (read_on 0 (length tape - length bytes)) z.splits ∙ zeros_read z.zeros (length tape - length bytes) rest ∙ ap (λ k. read_on 0 k rest) at in
    (h.0 ∙ ap (and_then placed) same, omega (arith, h.1))

-- After a block of data the rest of the tape comes,
pub read_block : (tape rest : List ℕ) (placed : List (ℕ × ℕ)) (address : ℕ) (content after : List ℕ) → HasRead tape rest placed → NoZeroFirst rest → BeginsWith rest address content after → 0 < length content →
    HasRead tape after (placed ++ enumerate_from address content)
read_block tape rest placed address content after h no_zero found some =
    let n = count_at rest in
    let whole : n < length rest = found.is_whole.whole in
    let header : 6 ≤ n = found.is_whole.header in
    let content_length : length content ≡ n - 6 = ap length found.content_is ∙ length-take-le (n - 6) (drop 6 rest) (omega (arith, length-drop 6 rest)) in
    let after_length : length after ≡ length rest - (n + 1) = ap length found.after_is ∙ length-drop (n + 1) rest in
    let at : length tape - length rest + (n + 1) ≡ length tape - length after = omega (arith, h.1) in
    let placing : placed_at rest ≡ enumerate_from address content = ap (λ a. enumerate_from a (take (n - 6) (drop 6 rest))) (sym found.address_is) ∙ ap (enumerate_from address) (sym found.content_is) in
    let next : read_on 0 (length tape - length rest + (n + 1)) (drop (n + 1) rest) ≡ read_on 0 (length tape - length after) after =
    ap (λ k. read_on 0 k (drop (n + 1) rest)) at ∙ ap (read_on 0 (length tape - length after)) (sym found.after_is) in
    let here : read_on 0 (length tape - length rest) rest ≡ and_then (enumerate_from address content) (read_on 0 (length tape - length after) after) =
    data_read (length tape - length rest) rest no_zero (omega arith) (found.right _) (omega arith) ∙ ap (λ p. and_then p (read_on 0 (length tape - length rest + (n + 1)) (drop (n + 1) rest))) placing ∙ ap (and_then (enumerate_from address content)) next in
    (h.0 ∙ ap (and_then placed) here ∙ and_then_more placed (enumerate_from address content) _, omega (arith, h.1))

pub ended : (placed : List (ℕ × ℕ)) (start : Option ℕ) → and_then placed (end_with start) ≡ Ok (record { placed = placed; start = start })
unfolding and_then
ended placed start = same_meaning (placed ++ []) placed start start (append-nil placed) refl

-- at its end nothing,
pub read_end : (tape rest : List ℕ) (placed : List (ℕ × ℕ)) → HasRead tape rest placed → length rest ≡ 0 → reading tape ≡ Ok (record { placed = placed; start = None })
unfolding read_on
read_end tape [] placed h is_end = h.0 ∙ ended placed None
read_end tape (b ∷ rest) placed h is_end = absurd (omega arith)

-- nor after a last block.
pub read_last : (tape rest : List ℕ) (placed : List (ℕ × ℕ)) (address : ℕ) (content after : List ℕ) → HasRead tape rest placed → NoZeroFirst rest → BeginsWith rest address content after → length content ≡ 0 →
    reading tape ≡ Ok (record { placed = placed; start = start_of address })
read_last tape rest placed address content after h no_zero found none =
    let n = count_at rest in
    let whole : n < length rest = found.is_whole.whole in
    let header : 6 ≤ n = found.is_whole.header in
    let content_length : length content ≡ n - 6 = ap length found.content_is ∙ length-take-le (n - 6) (drop 6 rest) (omega (arith, length-drop 6 rest)) in
    h.0 ∙ ap (and_then placed) (last_read (length tape - length rest) rest no_zero (omega arith) (found.right _) (omega arith) ∙ ap (λ a. end_with (start_of a)) (sym found.address_is)) ∙ ended placed (start_of address)

-- Where something is wrong, that is the fault of the tape.
pub read_wrong : (tape rest : List ℕ) (placed : List (ℕ × ℕ)) (fault : TapeFault) → HasRead tape rest placed → NoZeroFirst rest → 0 < length rest → wrong_of (length tape - length rest) rest ≡ Some fault → reading tape ≡ Err fault
unfolding and_then
read_wrong tape rest placed fault h no_zero more wrong = h.0 ∙ ap (and_then placed) (wrong_read (length tape - length rest) rest fault no_zero more wrong)

-- The next data byte of a block lies after the others.
enumerate_push : (n : ℕ) (xs : List ℕ) (x : ℕ) → enumerate_from n (xs ++ x ∷ []) ≡ enumerate_from n xs ++ (n + length xs, x) ∷ []
enumerate_push n [] x = ap (λ m. (m, x) ∷ []) (sym (add-zero n))
enumerate_push n (y ∷ xs) x =
    let e : n + 1 + length xs ≡ n + suc (length xs) = omega arith in
    ap (λ ys. (n, y) ∷ ys) (enumerate_push (n + 1) xs x ∙ ap (λ m. enumerate_from (n + 1) xs ++ (m, x) ∷ []) e)

pub enumerate_more : (n : ℕ) (xs : List ℕ) (i : ℕ) → i < length xs → enumerate_from n (take (i + 1) xs) ≡ enumerate_from n (take i xs) ++ (n + i, get_or xs i 0) ∷ []
enumerate_more n xs i h =
    let len : length (take i xs) ≡ i = length-take-le i xs (omega arith) in
    ap (enumerate_from n) (take_more xs i 0 h) ∙ enumerate_push n (take i xs) (get_or xs i 0) ∙ ap (λ m. enumerate_from n (take i xs) ++ (n + m, get_or xs i 0) ∷ []) len

-- one more byte in its place, with its address
pub pairs_more : (address i : ℕ) (bytes : List ℕ) (places : List (ℕ × ℕ)) → i < length bytes → length places ≡ length bytes → take i places ≡ enumerate_from address (take i bytes) → take (i + 1) (set places i (address + i, get_or bytes i 0)) ≡ enumerate_from address (take (i + 1) bytes)
pairs_more address i bytes places within room before =
    take_more_set places i (address + i, get_or bytes i 0) (omega (arith, room))
    ∙ ap (λ (l : List (ℕ × ℕ)). l ++ (address + i, get_or bytes i 0) ∷ []) before ∙ sym (enumerate_more address bytes i within)
