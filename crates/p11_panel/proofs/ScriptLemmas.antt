-- The pieces of one byte more, and of more bytes.
use Rattle.std.proofs.Common.{◌≡◌, ℕ, suc, ◌-◌, Bool, true, false, cond, nat_eq, if◌then◌else◌, List, [], ◌∷◌, ◌++◌, length, map, take, drop, arith, refl, sym, ap, ◌∙◌, append_assoc, append-nil, inl, inr}
use Rattle.std.proofs.lemmas.Bool.{cases_Bool}
use Rattle.std.proofs.lemmas.List.{length_push, map_push}
use Rattle.std.specs.List.{onto_first}
use Rattle.p11_panel.specs.Kept.Pieces.{Pieces, in_front, cut_at_lf}
use Rattle.p11_lines.specs.LineEnd.{without_cr}
use Rattle.p11_panel.specs.Script.{pieces_of, ended_lines, script_lines}

-- pieces after one byte more
abbrev pub and_byte : Bool → Pieces → ℕ → Pieces
and_byte true pieces b = record { ended = pieces.ended ++ pieces.last ∷ []; last = [] }
and_byte false pieces b = record { ended = pieces.ended; last = pieces.last ++ b ∷ [] }

-- pieces with one byte in front, which is an LF or isn't
abbrev pub with_front : Bool → ℕ → Pieces → Pieces
with_front true c pieces = record { ended = [] ∷ pieces.ended; last = pieces.last }
with_front false c pieces = in_front c pieces.ended pieces.last

front_of_pieces : (t : Bool) (c b : ℕ) (ended : List (List ℕ)) (last : List ℕ) → in_front c (and_byte t (record { ended = ended; last = last }) b).ended (and_byte t (record { ended = ended; last = last }) b).last ≡ and_byte t (in_front c ended last) b
front_of_pieces true c b [] last = refl
front_of_pieces true c b (piece ∷ pieces) last = refl
front_of_pieces false c b [] last = refl
front_of_pieces false c b (piece ∷ pieces) last = refl

-- a byte in front and one at the end don't meet
front_of : (r t : Bool) (c b : ℕ) (p : Pieces) → with_front r c (and_byte t p b) ≡ and_byte t (with_front r c p) b
front_of true true c b p = refl
front_of true false c b p = refl
front_of false t c b p = front_of_pieces t c b p.ended p.last

pieces_cons : (c : ℕ) (bytes : List ℕ) → cut_at_lf (c ∷ bytes) ≡ with_front (nat_eq c 10) c (cut_at_lf bytes)
unfolding cut_at_lf
pieces_cons c bytes = elim (nat_eq c 10) as (λ t. (if t then record { ended = [] ∷ (cut_at_lf bytes).ended; last = (cut_at_lf bytes).last } else in_front c (cut_at_lf bytes).ended (cut_at_lf bytes).last) ≡ with_front t c (cut_at_lf bytes)) [ true ↦ refl | false ↦ refl ]

pieces_one : (b : ℕ) → cut_at_lf (b ∷ []) ≡ and_byte (nat_eq b 10) (cut_at_lf []) b
unfolding cut_at_lf
pieces_one b = elim (nat_eq b 10) as (λ t. (if t then record { ended = [] ∷ []; last = [] } else in_front b [] []) ≡ and_byte t (record { ended = []; last = [] }) b) [ true ↦ refl | false ↦ refl ]

-- one byte at the end of a script
pub pieces_push : (bytes : List ℕ) (b : ℕ) → cut_at_lf (bytes ++ b ∷ []) ≡ and_byte (nat_eq b 10) (cut_at_lf bytes) b
pieces_push [] b = pieces_one b
pieces_push (c ∷ bytes) b =
    pieces_cons c (bytes ++ b ∷ [])
    ∙ ap (with_front (nat_eq c 10) c) (pieces_push bytes b)
    ∙ front_of (nat_eq c 10) (nat_eq b 10) c b (cut_at_lf bytes)
    ∙ ap (λ (p : Pieces). and_byte (nat_eq b 10) p b) (sym (pieces_cons c bytes))

-- THE PIECES BETWEEN THE LFS

onto_front : (byte : ℕ) (ended : List (List ℕ)) (last : List ℕ) → onto_first byte (ended ++ last ∷ []) ≡ (in_front byte ended last).ended ++ (in_front byte ended last).last ∷ []
onto_front byte [] last = refl
onto_front byte (piece ∷ pieces) last = refl

either_cut : (t : Bool) (byte : ℕ) (ended : List (List ℕ)) (last : List ℕ) → cond t ([] ∷ (ended ++ last ∷ [])) (onto_first byte (ended ++ last ∷ [])) ≡ (with_front t byte (record { ended = ended; last = last })).ended ++ (with_front t byte (record { ended = ended; last = last })).last ∷ []
either_cut true byte ended last = refl
either_cut false byte ended last = onto_front byte ended last

pieces_are : (bytes : List ℕ) → pieces_of bytes ≡ (cut_at_lf bytes).ended ++ (cut_at_lf bytes).last ∷ []
unfolding cut_at_lf
pieces_are [] = refl
pieces_are (byte ∷ bytes) =
    ap (λ (pieces : List (List ℕ)). cond (nat_eq byte 10) ([] ∷ pieces) (onto_first byte pieces)) (pieces_are bytes)
    ∙ either_cut (nat_eq byte 10) byte (cut_at_lf bytes).ended (cut_at_lf bytes).last
    ∙ ap (λ (p : Pieces). p.ended ++ p.last ∷ []) (sym (pieces_cons byte bytes))

-- all but the last of some pieces, and the last
all_but_last : (pieces : List (List ℕ)) (last : List ℕ) → take (length (pieces ++ last ∷ []) - 1) (pieces ++ last ∷ []) ≡ pieces
all_but_last [] last = refl
all_but_last (piece ∷ pieces) last =
    let more : suc (length (pieces ++ last ∷ [])) - 1 ≡ suc (length (pieces ++ last ∷ []) - 1) = omega (arith, length_push pieces last) in
    ap (λ (n : ℕ). take n (piece ∷ pieces ++ last ∷ [])) more ∙ ap (λ (l : List (List ℕ)). piece ∷ l) (all_but_last pieces last)

last_alone : (pieces : List (List ℕ)) (last : List ℕ) → drop (length (pieces ++ last ∷ []) - 1) (pieces ++ last ∷ []) ≡ last ∷ []
last_alone [] last = refl
last_alone (piece ∷ pieces) last =
    let more : suc (length (pieces ++ last ∷ [])) - 1 ≡ suc (length (pieces ++ last ∷ []) - 1) = omega (arith, length_push pieces last) in
    ap (λ (n : ℕ). drop n (piece ∷ pieces ++ last ∷ [])) more ∙ last_alone pieces last

ended_are : (bytes : List ℕ) → ended_lines bytes ≡ map without_cr (cut_at_lf bytes).ended
unfolding ended_lines
ended_are bytes =
    ap (λ (pieces : List (List ℕ)). map without_cr (take (length pieces - 1) pieces)) (pieces_are bytes)
    ∙ ap (map without_cr) (all_but_last (cut_at_lf bytes).ended (cut_at_lf bytes).last)

pub no_lines : ended_lines [] ≡ []
unfolding ended_lines
no_lines = refl

-- all lines are those that LF ended, and the last piece
pub all_lines : (bytes : List ℕ) → script_lines bytes ≡ ended_lines bytes ++ (cut_at_lf bytes).last ∷ []
unfolding script_lines
all_lines bytes =
    ap (λ (pieces : List (List ℕ)). ended_lines bytes ++ drop (length pieces - 1) pieces) (pieces_are bytes)
    ∙ ap (λ (l : List (List ℕ)). ended_lines bytes ++ l) (last_alone (cut_at_lf bytes).ended (cut_at_lf bytes).last)

-- an LF ends a line
pub lines_at_lf : (bytes : List ℕ) (b : ℕ) → nat_eq b 10 ≡ true → ended_lines (bytes ++ b ∷ []) ≡ ended_lines bytes ++ without_cr (cut_at_lf bytes).last ∷ []
lines_at_lf bytes b lf =
    ended_are (bytes ++ b ∷ [])
    ∙ ap (λ (p : Pieces). map without_cr p.ended) (pieces_push bytes b)
    ∙ ap (λ t. map without_cr (and_byte t (cut_at_lf bytes) b).ended) lf
    ∙ map_push without_cr (cut_at_lf bytes).ended (cut_at_lf bytes).last
    ∙ ap (λ (l : List (List ℕ)). l ++ without_cr (cut_at_lf bytes).last ∷ []) (sym (ended_are bytes))

pub last_at_lf : (bytes : List ℕ) (b : ℕ) → nat_eq b 10 ≡ true → (cut_at_lf (bytes ++ b ∷ [])).last ≡ []
last_at_lf bytes b lf = ap (λ (p : Pieces). p.last) (pieces_push bytes b) ∙ ap (λ t. (and_byte t (cut_at_lf bytes) b).last) lf

-- another byte ends none
pub lines_at_other : (bytes : List ℕ) (b : ℕ) → nat_eq b 10 ≡ false → ended_lines (bytes ++ b ∷ []) ≡ ended_lines bytes
lines_at_other bytes b other =
    ended_are (bytes ++ b ∷ [])
    ∙ ap (λ (p : Pieces). map without_cr p.ended) (pieces_push bytes b) ∙ ap (λ t. map without_cr (and_byte t (cut_at_lf bytes) b).ended) other
    ∙ sym (ended_are bytes)

pub last_at_other : (bytes : List ℕ) (b : ℕ) → nat_eq b 10 ≡ false → (cut_at_lf (bytes ++ b ∷ [])).last ≡ (cut_at_lf bytes).last ++ b ∷ []
last_at_other bytes b other = ap (λ (p : Pieces). p.last) (pieces_push bytes b) ∙ ap (λ t. (and_byte t (cut_at_lf bytes) b).last) other

-- the lines of more bytes begin with the lines of the first ones
pub lines_front : (bytes more : List ℕ) → (others : List (List ℕ)) × (ended_lines (bytes ++ more) ≡ ended_lines bytes ++ others)
lines_front bytes [] = ([], ap ended_lines (append-nil bytes) ∙ sym (append-nil (ended_lines bytes)))
lines_front bytes (b ∷ more) =
    let h = lines_front (bytes ++ b ∷ []) more in
    let same : bytes ++ b ∷ more ≡ (bytes ++ b ∷ []) ++ more = sym (append_assoc bytes (b ∷ []) more) in
    elim (cases_Bool (nat_eq b 10)) [
      | inl lf ↦ (without_cr (cut_at_lf bytes).last ∷ h.0, ap ended_lines same ∙ (h.1 ∙ (ap (λ (x : List (List ℕ)). x ++ h.0) (lines_at_lf bytes b lf) ∙ append_assoc (ended_lines bytes) (without_cr (cut_at_lf bytes).last ∷ []) h.0)))
      | inr other ↦ (h.0, ap ended_lines same ∙ (h.1 ∙ ap (λ (x : List (List ℕ)). x ++ h.0) (lines_at_other bytes b other)))
    ]
