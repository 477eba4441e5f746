-- Full words that begin with some bytes.
use Rattle.std.proofs.Common.{◌≡◌, ℕ, ◌+◌, ◌<◌, ◌≤◌, Bool, true, false, nat_eq, List, [], ◌∷◌, length, drop, Option, Some, None, refl, add-one, arith}
use Rattle.std.proofs.Math.Seq.{drop-cons}
use Rattle.std.proofs.lemmas.List.{drop_all}
use Rattle.std.proofs.lemmas.Option.{slice_get_within, get_or_from_slice_get}
use Rattle.std.specs.List.{starts_with, slice_get}
use Rattle.p11_phrases.specs.Verbs.{full_words, begun_from}

pub begun_here : (front word : List ℕ) (place : ℕ) → slice_get full_words place ≡ Some word → starts_with nat_eq word front ≡ true → begun_from front place ≡ Some place
begun_here front word place at begins =
    let within : place < length full_words = slice_get_within full_words place word at in
    rw (drop-cons full_words place [] within, get_or_from_slice_get full_words place word [] at, begins) refl

pub begun_behind : (front word : List ℕ) (place : ℕ) → slice_get full_words place ≡ Some word → starts_with nat_eq word front ≡ false → begun_from front (place + 1) ≡ begun_from front place
begun_behind front word place at begins =
    let within : place < length full_words = slice_get_within full_words place word at in
    rw (drop-cons full_words place [] within, get_or_from_slice_get full_words place word [] at, begins, add-one) refl

pub full_words-length : length full_words ≡ 22
unfolding full_words
full_words-length = refl

pub begun_none : (front : List ℕ) (place : ℕ) → 22 ≤ place → begun_from front place ≡ None
begun_none front place past =
    let behind : length full_words ≤ place = omega (arith, full_words-length) in
    rw (drop_all place full_words behind) refl
