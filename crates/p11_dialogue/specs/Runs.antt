-- Runs that are made in slices.
use Rattle.std.specs.Prelude.{ℕ, ◌+◌, ◌-◌, Bool, true, false, not, ◌&&◌, ◌||◌, nat_eq, nat_lt, nat_le, min, max, List, [], ◌∷◌, ◌++◌, Option, Some, None, length, take, drop, position, slice_index, is_some, unwrap_or, if◌then◌else◌}
use Rattle.p11_lines.specs.declared.answer.Answer.{Answer}
use Rattle.p11_lines.specs.declared.answer.Answer.TheVariants as answers
use Rattle.p11_lines.specs.declared.answer.StopReason.{StopReason}
use Rattle.p11_lines.specs.declared.answer.StopReason.TheVariants as reasons
use Rattle.p11_dialogue.specs.declared.run.RunProgress.{RunProgress}
use Rattle.p11_dialogue.specs.declared.run.Course.{Course}
use Rattle.p11_dialogue.specs.declared.run.Course.TheVariants.{Slices, Presses, Ticks, Records, Escapes, Hints, Ends, Rests}
use Rattle.p11_dialogue.specs.Lines.{is_line_feed}
use Rattle.p11_lines.specs.LineEnd.{without_cr}

-- a run of so many turns, of which none is made
unfoldable pub run_of : ℕ → Bool → RunProgress
run_of turns until_idle =
    record { is_talk = false; until_idle = until_idle; left = turns; made = 0; total = 0; is_idle = false; stuck = 0; is_fresh = true; is_quiet = false }

-- a talk with the machine, of as many turns as there may be
unfoldable pub talk_of : RunProgress
talk_of =
    record { is_talk = true; until_idle = true; left = 100000000; made = 0; total = 0; is_idle = false; stuck = 0; is_fresh = true; is_quiet = false }

-- ---- what comes next

-- Ctrl-E, and Ctrl-C
unfoldable pub is_escape : ℕ → Bool
is_escape byte = nat_eq byte 5

unfoldable pub is_interrupt : ℕ → Bool
is_interrupt byte = nat_eq byte 3

abbrev pub has_escape : List ℕ → Bool
has_escape keys = is_some (position is_escape keys)

abbrev pub has_interrupt : List ℕ → Bool
has_interrupt keys = is_some (position is_interrupt keys)

abbrev pub slices_or_rests : RunProgress → Course
slices_or_rests run = if run.is_idle then Rests else Slices

-- No key waits. The end of the keyboard ends a talk; of a program the next line is waited for, or the end found, once the
-- machine types nothing.
abbrev pub without_keys : RunProgress → Bool → Bool → Course
without_keys run true is_over = if is_over then Ends else slices_or_rests run
without_keys run false is_over = if run.is_quiet then (if is_over then Ends else Rests) else Slices

-- keys wait, and the machine takes none, because it idles or made 200 slices without taking one: a Ctrl-E behind them ends
-- the talk, or the end of the keyboard where the machine idles
abbrev pub where_none_is_taken : RunProgress → Bool → List ℕ → Course
where_none_is_taken run is_over keys = if has_escape keys then Escapes else (if is_over && run.is_idle then Ends else slices_or_rests run)

-- In a talk the keys that wait go to the machine as far as it has room, up to a Ctrl-E; those of a program only while the
-- machine types nothing.
unfoldable pub in_talk : RunProgress → Bool → Bool → List ℕ → ℕ → Course
in_talk run is_person is_over keys room =
    if nat_eq (length keys) 0 then without_keys run is_person is_over else (
    if not is_person && not run.is_quiet then Slices else (
    if nat_eq (slice_index keys 0) 5 then Escapes else (
    if nat_lt 0 room then Presses else (
    if not run.is_idle && nat_lt run.stuck 200 then Slices else where_none_is_taken run is_over keys))))

-- A run with a count leaves the keys to the console, but for a person's Ctrl-E, which ends it, and Ctrl-C.
unfoldable pub course_of : RunProgress → Bool → ℕ → Bool → List ℕ → ℕ → Course
course_of run is_person ticks is_over keys room =
    if nat_lt 0 ticks then Ticks else (
    if nat_le 100000000 run.made then Records else (
    if run.is_talk then in_talk run is_person is_over keys room else (
    if not is_person then Slices else (
    if has_escape keys then Escapes else (
    if has_interrupt keys then Hints else Slices)))))

-- those before a Ctrl-E
abbrev pub before_escape : List ℕ → List ℕ
before_escape keys = take (unwrap_or (position is_escape keys) (length keys)) keys

-- a line of a program's keys ends by CR (13), as a person's does
abbrev pub line_given : Option ℕ → List ℕ → List ℕ × ℕ
line_given (Some place) keys = (without_cr (take place keys) ++ 13 ∷ [], place + 1)
line_given None keys = (keys, length keys)

abbrev pub given_from : Bool → List ℕ → List ℕ × ℕ
given_from is_person front = if is_person then (front, length front) else line_given (position is_line_feed front) front

-- the keys that the machine is given, and how many of those that wait they are: those before a Ctrl-E, as far as there is
-- room, and of a program a line at most
unfoldable pub given_keys : Bool → List ℕ → ℕ → List ℕ × ℕ
given_keys is_person keys room = given_from is_person (before_escape (take room keys))

-- what is left of the keys behind a Ctrl-E: a talk drops those before it, which the machine didn't take
unfoldable pub behind_escape : Bool → List ℕ → List ℕ
behind_escape is_talk keys =
    let place = unwrap_or (position is_escape keys) (length keys) in
    if is_talk then drop (place + 1) keys else take place keys ++ drop (place + 1) keys

-- the keys without the first Ctrl-C
unfoldable pub without_interrupt : List ℕ → List ℕ
without_interrupt keys =
    let place = unwrap_or (position is_interrupt keys) (length keys) in take place keys ++ drop (place + 1) keys

-- ---- slices

-- the turns of the next slice, of so many at most: few where keys wait, so that they are taken soon
unfoldable pub slice_turns : RunProgress → Bool → ℕ → ℕ
slice_turns run has_keys turns =
    max 1 (min (if run.is_talk && has_keys then min 4096 turns else turns) (min run.left (100000000 - run.made)))

-- the run at a slice: it counts the slices in which keys wait
unfoldable pub at_slice : Bool → RunProgress → RunProgress
at_slice has_keys run = record run { stuck = if has_keys then min (run.stuck + 1) 200 else 0 }

-- the run once keys were pressed or the clock ticked, or its turns were recorded
abbrev pub pressed_on : RunProgress → RunProgress
pressed_on run = record run { made = 0; is_idle = false; stuck = 0; is_quiet = false }

abbrev pub recorded_on : RunProgress → RunProgress
recorded_on run = record run { made = 0 }

-- the last byte ends a line
unfoldable pub is_fresh_behind : Bool → List ℕ → Bool
is_fresh_behind is_fresh typed =
    if nat_eq (length typed) 0 then is_fresh else nat_eq (slice_index typed (length typed - 1)) 10

abbrev pub is_idling : StopReason → Bool
is_idling reasons.Idle = true
is_idling _ = false

-- the run behind a slice of so many turns
unfoldable pub next_run : RunProgress → List ℕ → StopReason → ℕ → RunProgress
next_run run typed reason turns =
    record run {
      left = if run.is_talk then run.left else run.left - turns;
      made = min (run.made + turns) 4294967295;
      total = min (run.total + turns) 18446744073709551615;
      is_idle = is_idling reason;
      is_fresh = is_fresh_behind run.is_fresh typed;
      is_quiet = is_idling reason || nat_eq (length typed) 0;
    }

-- A run goes on if all turns of the slice were made, none halted, and some of the run's are left; a talk also where the
-- machine idles.
unfoldable pub goes_on : RunProgress → StopReason → ℕ → Bool
goes_on run reasons.Turns turns = run.is_talk || nat_lt turns run.left
goes_on run reasons.Idle turns = run.is_talk
goes_on run _ turns = false

unfoldable pub typed_in : {A : Type 0} → Answer A → List ℕ
typed_in (answers.Stop typed reason turns pc) = typed
typed_in _ = []
