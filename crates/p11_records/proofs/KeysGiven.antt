-- The keys that a talk gives the machine: some, bytes, and no more than there is room for.
use Rattle.std.proofs.Common.{◌≡◌, ℕ, zero, suc, ◌<◌, ◌≤◌, Bool, true, false, not, ◌&&◌, nat_lt, if◌then◌else◌, List, [], ◌∷◌, ◌++◌, length, take, Option, Some, None, refl, sym, ap, ◌∙◌, arith}
use Rattle.std.specs.Prelude.{nat_le, nat_eq, position, slice_index, unwrap_or}
use Rattle.std.proofs.lemmas.Bool.Decides.{nat_tests}
use Rattle.std.proofs.lemmas.List.{length-append, length-take}
use Rattle.std.proofs.lemmas.List.Elements.{All-append, All-cons, All-nil, All-take}
use Rattle.std.proofs.lemmas.List.Quantifiers.{position-Some}
use Rattle.p11_lines.specs.LineEnd.{without_cr}
use Rattle.p11_dialogue.specs.Lines.{is_line_feed}
use Rattle.p11_dialogue.specs.Runs.{before_escape, course_of, has_escape, has_interrupt, in_talk, where_none_is_taken, without_keys, given_from, given_keys, is_escape, line_given}
use Rattle.p11_dialogue.specs.declared.run.Course.{Course}
use Rattle.p11_dialogue.specs.declared.run.Course.TheVariants as course
use Rattle.p11_dialogue.specs.declared.run.RunProgress.{RunProgress}
use Rattle.p11_records.proofs.LinesFit.{AreBytes}

-- the keys that are given are no more than there is room for
shorter : (n : ℕ) (keys : List ℕ) → length (take n keys) ≤ length keys
shorter n keys = let e = length-take n keys in omega (arith, e)

at_most : (n : ℕ) (keys : List ℕ) → length (take n keys) ≤ n
at_most n keys = let e = length-take n keys in omega (arith, e)

cut_or_not : (cut : Bool) (n : ℕ) (keys : List ℕ) → length (if cut then take n keys else keys) ≤ length keys
cut_or_not true n keys = shorter n keys
cut_or_not false n keys = omega arith

without_cr_shorter : (keys : List ℕ) → length (without_cr keys) ≤ length keys
unfolding without_cr
without_cr_shorter keys = cut_or_not _ _ keys

with_return : (keys : List ℕ) (most : ℕ) → length keys < most → length (keys ++ 13 ∷ []) ≤ most
with_return keys most below = let e = length-append keys (13 ∷ []) in omega (arith, e, below)

line_short : (found : Option ℕ) (front : List ℕ) → position is_line_feed front ≡ found → length (line_given found front).0 ≤ length front
line_short None front e = omega arith
line_short (Some place) front e =
    let there : place < length front = (position-Some is_line_feed front place 0 e).0 in
    let cut = without_cr_shorter (take place front) in
    let few = at_most place front in
    with_return (without_cr (take place front)) (length front) (omega (arith, there, cut, few))

front_short : (is_person : Bool) (front : List ℕ) → length (given_from is_person front).0 ≤ length front
front_short true front = omega arith
front_short false front = line_short (position is_line_feed front) front refl

pub given_fit : (is_person : Bool) (keys : List ℕ) (room : ℕ) → length (given_keys is_person keys room).0 ≤ room
unfolding given_keys
given_fit is_person keys room =
    let front = front_short is_person (before_escape (take room keys)) in
    let before = shorter (unwrap_or (position is_escape (take room keys)) (length (take room keys))) (take room keys) in
    let few = at_most room keys in
    omega (arith, front, before, few)

-- they are bytes, as those that wait are
front_bytes : (n : ℕ) (keys : List ℕ) → AreBytes keys → AreBytes (take n keys)
front_bytes n keys bytes = All-take (λ byte. byte ≤ 255) n keys bytes

cut_bytes : (cut : Bool) (n : ℕ) (keys : List ℕ) → AreBytes keys → AreBytes (if cut then take n keys else keys)
cut_bytes true n keys bytes = front_bytes n keys bytes
cut_bytes false n keys bytes = bytes

without_cr_bytes : (keys : List ℕ) → AreBytes keys → AreBytes (without_cr keys)
unfolding without_cr
without_cr_bytes keys bytes = cut_bytes _ _ keys bytes

line_bytes : (found : Option ℕ) (front : List ℕ) → AreBytes front → AreBytes (line_given found front).0
line_bytes None front bytes = bytes
line_bytes (Some place) front bytes =
    All-append (λ byte. byte ≤ 255) (without_cr (take place front)) (13 ∷ []) (without_cr_bytes (take place front) (front_bytes place front bytes))
    (All-cons (λ byte. byte ≤ 255) 13 [] (omega arith) (All-nil (λ byte. byte ≤ 255)))

from_bytes : (is_person : Bool) (front : List ℕ) → AreBytes front → AreBytes (given_from is_person front).0
from_bytes true front bytes = bytes
from_bytes false front bytes = line_bytes (position is_line_feed front) front bytes

pub given_bytes : (is_person : Bool) (keys : List ℕ) (room : ℕ) → AreBytes keys → AreBytes (given_keys is_person keys room).0
unfolding given_keys
given_bytes is_person keys room bytes = from_bytes is_person (before_escape (take room keys)) (front_bytes _ (take room keys) (front_bytes room keys bytes))

-- Keys are pressed where some wait, the first is no Ctrl-E, and there is room: so some are given.
record IsPressed (keys : List ℕ) (room : ℕ) : Type 0 where
  some : 0 < length keys
  first : nat_eq (slice_index keys 0) 5 ≡ false
  fits : 0 < room

not_pressed : Course → Bool
not_pressed course.Presses = false
not_pressed found = true

slices_or_not : (idle : Bool) → not_pressed (if idle then course.Rests else course.Slices) ≡ true
unfolding not_pressed
slices_or_not true = refl
slices_or_not false = refl

if_not : (b : Bool) (x y : Course) → not_pressed x ≡ true → not_pressed y ≡ true → not_pressed (if b then x else y) ≡ true
if_not true x y p q = p
if_not false x y p q = q

keyless : (run : RunProgress) (is_person is_over : Bool) → not_pressed (without_keys run is_person is_over) ≡ true
unfolding not_pressed
keyless run true is_over = if_not is_over course.Ends _ refl (slices_or_not run.is_idle)
keyless run false is_over = if_not run.is_quiet _ course.Slices (if_not is_over course.Ends course.Rests refl refl) refl

none_is_taken : (run : RunProgress) (is_over : Bool) (keys : List ℕ) → not_pressed (where_none_is_taken run is_over keys) ≡ true
unfolding not_pressed
none_is_taken run is_over keys = if_not (has_escape keys) course.Escapes _ refl (if_not (is_over && run.is_idle) course.Ends _ refl (slices_or_not run.is_idle))

not_both : true ≡ false → ⊥
not_both e = cc

pressed_so : (found : Course) → found ≡ course.Presses → not_pressed found ≡ true → ⊥
unfolding not_pressed
pressed_so found e other = not_both (sym other ∙ ap not_pressed e)

talk_tests : (run : RunProgress) (is_over : Bool) (keys : List ℕ) (room : ℕ) (none waits first there patient : Bool) (without : Course) → nat_eq (length keys) 0 ≡ none → nat_eq (slice_index keys 0) 5 ≡ first → nat_lt 0 room ≡ there → not_pressed without ≡ true
    → (if none then without else (if waits then course.Slices else (if first then course.Escapes else (if there then course.Presses else (if patient then course.Slices else where_none_is_taken run is_over keys))))) ≡ course.Presses → IsPressed keys room
unfolding not_pressed
talk_tests run is_over keys room true waits first there patient without e f g other is = absurd (pressed_so without is other)
talk_tests run is_over keys room false true first there patient without e f g other is = cc
talk_tests run is_over keys room false false true there patient without e f g other is = cc
talk_tests run is_over keys room false false false true patient without e f g other is = record { some = grind (arith, nat_tests, e); first = f; fits = grind (arith, nat_tests, g) }
talk_tests run is_over keys room false false false false true without e f g other is = cc
talk_tests run is_over keys room false false false false false without e f g other is = absurd (pressed_so (where_none_is_taken run is_over keys) is (none_is_taken run is_over keys))

talk_presses : (run : RunProgress) (is_person is_over : Bool) (keys : List ℕ) (room : ℕ) → in_talk run is_person is_over keys room ≡ course.Presses → IsPressed keys room
unfolding in_talk
talk_presses run is_person is_over keys room e =
    talk_tests run is_over keys room (nat_eq (length keys) 0) (not is_person && not run.is_quiet) (nat_eq (slice_index keys 0) 5) (nat_lt 0 room) (not run.is_idle && nat_lt run.stuck 200) (without_keys run is_person is_over) refl refl refl (keyless run is_person is_over) e

course_tests : (ticks full talk person escape interrupt : Bool) (talks : Course) → (if ticks then course.Ticks else (if full then course.Records else (if talk then talks else (if person then course.Slices else (if escape then course.Escapes else (if interrupt then course.Hints else course.Slices)))))) ≡ course.Presses → talks ≡ course.Presses
course_tests true full talk person escape interrupt talks e = cc
course_tests false true talk person escape interrupt talks e = cc
course_tests false false true person escape interrupt talks e = e
course_tests false false false true escape interrupt talks e = cc
course_tests false false false false true interrupt talks e = cc
course_tests false false false false false true talks e = cc
course_tests false false false false false false talks e = cc

is_pressed : (run : RunProgress) (is_person : Bool) (ticks : ℕ) (is_over : Bool) (keys : List ℕ) (room : ℕ) → course_of run is_person ticks is_over keys room ≡ course.Presses → IsPressed keys room
unfolding course_of
is_pressed run is_person ticks is_over keys room e =
    talk_presses run is_person is_over keys room (course_tests (nat_lt 0 ticks) (nat_le 100000000 run.made) run.is_talk (not is_person) (has_escape keys) (has_interrupt keys) (in_talk run is_person is_over keys room) e)

-- the first isn't the Ctrl-E that ends the front
not_at_first : (place : ℕ) (keys : List ℕ) → nat_eq (slice_index keys 0) 5 ≡ false → position is_escape keys ≡ Some place → 0 < place
unfolding is_escape
not_at_first zero keys first e = (let q = (position-Some is_escape keys 0 0 e).1 in grind (arith, nat_tests, q, first))
not_at_first (suc place) keys first e = omega arith

before_some : (found : Option ℕ) (keys : List ℕ) → position is_escape keys ≡ found → 0 < length keys → nat_eq (slice_index keys 0) 5 ≡ false → 0 < length (take (unwrap_or found (length keys)) keys)
before_some None keys e some first = let l = length-take (length keys) keys in omega (arith, l, some)
before_some (Some place) keys e some first =
    let l = length-take place keys in
    let there : 0 < place = not_at_first place keys first e in
    omega (arith, l, some, there)

line_some : (found : Option ℕ) (front : List ℕ) → 0 < length front → 0 < length (line_given found front).0
line_some None front some = some
line_some (Some place) front some = let l = length-append (without_cr (take place front)) (13 ∷ []) in omega (arith, l)

from_some : (is_person : Bool) (front : List ℕ) → 0 < length front → 0 < length (given_from is_person front).0
from_some true front some = some
from_some false front some = line_some (position is_line_feed front) front some

first_kept : (room : ℕ) (keys : List ℕ) → 0 < room → slice_index (take room keys) 0 ≡ slice_index keys 0
first_kept zero keys fits = absurd (omega (arith, fits))
first_kept (suc room) [] fits = refl
first_kept (suc room) (key ∷ keys) fits = refl

pub some_given : (run : RunProgress) (is_person : Bool) (ticks : ℕ) (is_over : Bool) (keys : List ℕ) (room : ℕ) → course_of run is_person ticks is_over keys room ≡ course.Presses → 0 < length (given_keys is_person keys room).0
unfolding given_keys
some_given run is_person ticks is_over keys room e =
    let p = is_pressed run is_person ticks is_over keys room e in
    let l = length-take room keys in
    from_some is_person (before_escape (take room keys))
    (before_some (position is_escape (take room keys)) (take room keys) refl (omega (arith, l, p.some, p.fits)) (ap (λ key. nat_eq key 5) (first_kept room keys p.fits) ∙ p.first))
