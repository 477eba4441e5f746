-- What passes to a terminal, of bytes that may be cut anywhere.
use Rattle.std.specs.Prelude.{ℕ, ◌+◌, ◌/◌, ◌%◌, Bool, true, ◌&&◌, nat_lt, nat_le, nat_eq, List, [], ◌∷◌, ◌++◌, length, unwrap_or, if◌then◌else◌}
use Rattle.std.specs.Map.{lookup}
use Rattle.p11_shown.specs.Sequences.{judged}
use Rattle.p11_shown.specs.declared.phase.Phase.{Phase}
use Rattle.p11_shown.specs.declared.phase.Phase.TheVariants.{Start, Escape}
use Rattle.p11_shown.specs.declared.phase.Verdict.{Verdict}
use Rattle.p11_shown.specs.declared.phase.Verdict.TheVariants.{Goes, Whole, Alone}

-- a sequence that is begun, and its bytes, which the terminal hasn't got
pub record ScreenState : Type 0 where
  pub phase : Phase
  pub held : List ℕ

abbrev pub fresh : ScreenState
fresh = record { phase = Start; held = [] }

-- a printing byte
abbrev pub is_plain : ℕ → Bool
is_plain byte = nat_le 0o40 byte && nat_le byte 0o176

-- the controls that pass: NUL, BEL, BS, HT, LF, VT, FF, CR, SO, SI and DEL
abbrev pub controls : List (ℕ × Bool)
controls =
    (0o0, true) ∷ (0o7, true) ∷ (0o10, true) ∷ (0o11, true) ∷ (0o12, true) ∷ (0o13, true) ∷ (0o14, true) ∷ (0o15, true)
    ∷ (0o16, true) ∷ (0o17, true) ∷ (0o177, true) ∷ []

abbrev pub passes_alone : ℕ → Bool
passes_alone byte = unwrap_or (lookup (nat_eq byte) controls) (is_plain byte)

abbrev pub hex : ℕ → ℕ
hex digit = if nat_lt digit 10 then 48 + digit else 55 + digit

-- a printing byte as itself, any other as < and > around two hexadecimal digits
unfoldable pub readable : ℕ → List ℕ
readable byte = if is_plain byte then byte ∷ [] else 60 ∷ hex (byte / 16) ∷ hex (byte % 16) ∷ 62 ∷ []

unfoldable pub all_readable : List ℕ → List ℕ
all_readable [] = []
all_readable (byte ∷ bytes) = readable byte ++ all_readable bytes

-- a byte that isn't of a sequence that is begun: the state behind it, and what the terminal gets
abbrev pub taken_alone : ℕ → ScreenState × List ℕ
taken_alone byte =
    if nat_eq byte 0o33 then (record { phase = Escape; held = byte ∷ [] }, []) else (
    if passes_alone byte then (fresh, byte ∷ []) else (fresh, readable byte))

-- a sequence has 32 bytes at most and one
abbrev pub within : ScreenState → ℕ → Verdict
within s byte = if nat_lt (length s.held) 32 then judged s.phase byte else Alone

-- a sequence passes once it is whole. Where none goes on so its bytes are shown, and the next byte stands alone
abbrev pub taken_by : Verdict → List ℕ → ℕ → ScreenState × List ℕ
taken_by (Goes phase) held byte = (record { phase = phase; held = held ++ byte ∷ [] }, [])
taken_by Whole held byte = (fresh, held ++ byte ∷ [])
taken_by Alone held byte = ((taken_alone byte).0, all_readable held ++ (taken_alone byte).1)

unfoldable pub taken : ScreenState → ℕ → ScreenState × List ℕ
taken s byte = taken_by (within s byte) s.held byte

-- what the terminal gets for bytes, and the state behind them
unfoldable pub passed : ScreenState → List ℕ → List ℕ
passed s [] = []
passed s (byte ∷ bytes) = (taken s byte).1 ++ passed (taken s byte).0 bytes

unfoldable pub after : ScreenState → List ℕ → ScreenState
after s [] = s
after s (byte ∷ bytes) = after (taken s byte).0 bytes
