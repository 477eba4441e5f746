-- The sequences that pass to a terminal: those by which programs for a VT52, a VT100 or a VT102 write on its screen. None of them makes
-- a terminal answer, or does anything beside its screen, its tabs and what its keys send.
use Rattle.std.specs.Prelude.{ℕ, ◌+◌, ◌*◌, ◌-◌, Bool, true, false, ◌&&◌, ◌||◌, nat_le, nat_eq, List, [], ◌∷◌, unwrap_or, if◌then◌else◌}
use Rattle.std.specs.Map.{lookup}
use Rattle.p11_shown.specs.declared.phase.Phase.{Phase}
use Rattle.p11_shown.specs.declared.phase.Phase.TheVariants.{Start, Escape, Size, Set, Row, Column, Bracket, Numbers}
use Rattle.p11_shown.specs.declared.phase.Verdict.{Verdict}
use Rattle.p11_shown.specs.declared.phase.Verdict.TheVariants.{Goes, Whole, Alone}

-- by a row of a table; where there is none the byte stands alone
abbrev pub by_row : List (ℕ × Verdict) → ℕ → Verdict
by_row rows byte = unwrap_or (lookup (nat_eq byte) rows) Alone

-- Behind ESC: # ( ) Y [ begin a longer one. 7 8 < = > save and bring back the cursor, leave the VT52's ways, set the keypad. A to K and M
-- move the cursor, set a tab, scroll, erase, and take the VT52's graphic characters.
abbrev pub behind_escape : ℕ → Verdict
behind_escape =
    by_row ((0o43, Goes Size) ∷ (0o50, Goes Set) ∷ (0o51, Goes Set) ∷ (0o131, Goes Row) ∷ (0o133, Goes Bracket)
    ∷ (0o67, Whole) ∷ (0o70, Whole) ∷ (0o74, Whole) ∷ (0o75, Whole) ∷ (0o76, Whole)
    ∷ (0o101, Whole) ∷ (0o102, Whole) ∷ (0o103, Whole) ∷ (0o104, Whole) ∷ (0o105, Whole) ∷ (0o106, Whole) ∷ (0o107, Whole)
    ∷ (0o110, Whole) ∷ (0o111, Whole) ∷ (0o112, Whole) ∷ (0o113, Whole) ∷ (0o115, Whole) ∷ [])

-- ESC # 3 4 5 6: a line's height and width; ESC # 8: the screen full of E
abbrev pub behind_size : ℕ → Verdict
behind_size = by_row ((0o63, Whole) ∷ (0o64, Whole) ∷ (0o65, Whole) ∷ (0o66, Whole) ∷ (0o70, Whole) ∷ [])

-- ESC ( and ESC ) with 0 1 2 A B: the characters of a set
abbrev pub behind_set : ℕ → Verdict
behind_set = by_row ((0o60, Whole) ∷ (0o61, Whole) ∷ (0o62, Whole) ∷ (0o101, Whole) ∷ (0o102, Whole) ∷ [])

-- ESC Y ROW COLUMN, two printing bytes: the VT52's cursor
abbrev pub behind_row : ℕ → Verdict
behind_row byte = if nat_le 0o40 byte && nat_le byte 0o176 then Goes Column else Alone

abbrev pub behind_column : ℕ → Verdict
behind_column byte = if nat_le 0o40 byte && nat_le byte 0o176 then Whole else Alone

-- ESC [ ? .. : 1 to 8, the VT100's own modes, and 25, whether the cursor shows
abbrev pub is_private_mode : ℕ → Bool
is_private_mode number = nat_le 1 number && nat_le number 8 || nat_eq number 25

-- ESC [ .. : 4, whether characters are put in; 20, whether LF begins a line
abbrev pub is_plain_mode : ℕ → Bool
is_plain_mode number = nat_eq number 4 || nat_eq number 20

abbrev pub is_mode : Bool → ℕ → Bool
is_mode is_private number = if is_private then is_private_mode number else is_plain_mode number

-- h and l set modes. Behind plain numbers @ A B C D H J K L M P f g m r put in, move, erase, take away, set tabs, colours and margins
abbrev pub last : Bool → Bool → ℕ → Verdict
last is_private all_modes byte =
    if nat_eq byte 0o150 || nat_eq byte 0o154 then (if all_modes then Whole else Alone) else (
    if is_private then Alone else
    by_row ((0o100, Whole) ∷ (0o101, Whole) ∷ (0o102, Whole) ∷ (0o103, Whole) ∷ (0o104, Whole) ∷ (0o110, Whole) ∷ (0o112, Whole)
    ∷ (0o113, Whole) ∷ (0o114, Whole) ∷ (0o115, Whole) ∷ (0o120, Whole) ∷ (0o146, Whole) ∷ (0o147, Whole) ∷ (0o155, Whole)
    ∷ (0o162, Whole) ∷ []) byte)

-- a number has three digits at most
abbrev pub digit : Bool → Bool → ℕ → ℕ → Verdict
digit is_private are_modes number units =
    if nat_le 100 number then Alone else Goes (Numbers is_private are_modes (number * 10 + units))

-- behind a number: a digit of it, a semicolon (73) before the next, or the sequence's last byte
abbrev pub in_numbers : Bool → Bool → ℕ → ℕ → Verdict
in_numbers is_private are_modes number byte =
    if nat_le 0o60 byte && nat_le byte 0o71 then digit is_private are_modes number (byte - 0o60) else (
    if nat_eq byte 0o73 then Goes (Numbers is_private (are_modes && is_mode is_private number) 0) else
    last is_private (are_modes && is_mode is_private number) byte)

-- behind ESC [ a question mark (77) may stand
abbrev pub behind_bracket : ℕ → Verdict
behind_bracket byte = if nat_eq byte 0o77 then Goes (Numbers true true 0) else in_numbers false true 0 byte

-- what a byte is behind what is begun
unfoldable pub judged : Phase → ℕ → Verdict
judged Start byte = Alone
judged Escape byte = behind_escape byte
judged Size byte = behind_size byte
judged Set byte = behind_set byte
judged Row byte = behind_row byte
judged Column byte = behind_column byte
judged Bracket byte = behind_bracket byte
judged (Numbers is_private are_modes number) byte = in_numbers is_private are_modes number byte
