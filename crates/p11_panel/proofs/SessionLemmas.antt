-- One more byte, and one more line, of a session.
use Rattle.std.proofs.Common.{◌≡◌, ◌≤◌, ◌<◌, ◌+◌, arith, ℕ, true, false, nat_eq, List, [], ◌∷◌, ◌++◌, length, map, take, drop, get_or, Option, None, Some, refl, sym, ap, subst, ◌∙◌, append_assoc, append-nil, add-zero, take-append-drop}
use Rattle.std.proofs.lemmas.Bool.{lt-ltb, lt-leb, eq-eqb, ne_eqb}
use Rattle.std.proofs.lemmas.List.{length-append, length-take, map-append, take_more, take_all}
use Rattle.std.proofs.lemmas.List.Elements.{All-nil, All-push}
use Rattle.std.proofs.lemmas.List.Sums.{sum_by_push}
use Rattle.std.proofs.lemmas.List.Concat.{flat_map-append}
use Rattle.std.specs.Option.{option_to_list}
use Rattle.std.specs.Io.KnownBytes.{Consumes, Keeps}
use Rattle.std.proofs.KnownBytes.{Consumes-nil, Consumes-trans, Consumes-kept}
use Rattle.p11_lines.specs.declared.answer.Answer.{Answer}
use Rattle.p11_lines.specs.declared.answer.Answer.TheVariants as answers
use Rattle.p11_lines.specs.declared.fault.Fault.TheVariants.{BadLine}
use Rattle.p11_lines.specs.AnswerText.{text_of}
use Rattle.p11_lines.specs.Grammar.{line_from}
use Rattle.p11_lines.specs.Writers.{WriterState, Writes, with_calls}
use Rattle.p11_lines.specs.Written.{AppendsFront}
use Rattle.p11_lines.proofs.Calls.{Writes-none, Writes-trans, calls_none, calls_more}
use Rattle.p11_panel.specs.Kept.Buffer.{kept, pushed}
use Rattle.p11_panel.specs.Readers.{ReaderState, Reads, GivesSome, gave, ended, failed}
use Rattle.p11_panel.specs.declared.read_call.ReadCall.{ReadCall}
use Rattle.p11_panel.specs.Kept.Pieces.{cut_at_lf}
use Rattle.p11_lines.specs.LineEnd.{without_cr}
use Rattle.p11_panel.specs.Script.{ended_lines, script_lines}
use Rattle.p11_panel.specs.Session.{SessionState, has_answer, LineDoes, LinesRun, ScriptDone, ScriptCut, texts_of}
use Rattle.p11_panel.specs.Kept.Standing.{Stands}
use Rattle.p11_panel.proofs.BufferLemmas.{kept_nil, kept_push}
use Rattle.p11_panel.proofs.ScriptLemmas.{all_lines, lines_at_lf, last_at_lf, lines_at_other, last_at_other, lines_front}

-- a line that is too long
pub long_line : (A : Type 0) (line : List ℕ) (s : SessionState) → 4096 < length line → LineDoes {A = A} line s (Some (answers.Refused BadLine)) s
unfolding LineDoes has_answer line_from
long_line A line s lt = rw (lt-ltb _ _ lt, lt-leb _ _ lt) (refl, refl)

-- one line more
module _ {S A : Type 0} (Does : List ℕ → S → Option (Answer A) → S → Type 0) where
  runs_push : (lines : List (List ℕ)) (s : S) (answers : List (Answer A)) (s' : S) (line : List ℕ) (answer : Option (Answer A)) (s'' : S)
      → LinesRun Does lines s answers s' → Does line s' answer s'' → LinesRun Does (lines ++ line ∷ []) s (answers ++ option_to_list answer) s''
  unfolding LinesRun
  runs_push [] s answers s' line answer s'' r d =
      (answer, s'', [], subst (λ (x : S). Does line x answer s'') r.1 d, (refl, refl), ap (λ (x : List (Answer A)). x ++ option_to_list answer) r.0 ∙ sym (append-nil (option_to_list answer)))
  runs_push (l ∷ lines) s answers s' line answer s'' r d = (
    r.0,
    r.1,
    r.2 ++ option_to_list answer,
    r.3,
    runs_push lines r.1 r.2 s' line answer s'' r.4 d,
    ap (λ (x : List (Answer A)). x ++ option_to_list answer) r.5 ∙ append_assoc (option_to_list r.0) r.2 (option_to_list answer),
  )

module _ {S A : Type 0} (Does : List ℕ → S → Option (Answer A) → S → Type 0) where
  -- one line more is done
  done_push : (lines : List (List ℕ)) (s : S) (a : WriterState) (s' : S) (b : WriterState) (n : ℕ) (line : List ℕ) (answer : Option (Answer A)) (s'' : S) (c : WriterState) (k : ℕ)
      → ScriptDone Does lines s a s' b n → Does line s' answer s'' → Writes b c (texts_of (option_to_list answer)) [] → k ≡ length (option_to_list answer) → ScriptDone Does (lines ++ line ∷ []) s a s'' c (n + k)
  unfolding ScriptDone
  done_push lines s a s' b n line answer s'' c k h d w e = (
    h.0 ++ option_to_list answer,
    runs_push Does lines s h.0 s' line answer s'' h.1 d,
    rw flat_map-append (Writes-trans a b c (texts_of h.0) (texts_of (option_to_list answer)) [] h.2 w),
    omega (arith, h.3, length-append h.0 (option_to_list answer)),
  )

  -- one line more is done, and not all of its text is written
  cut_push : (lines more : List (List ℕ)) (s : S) (a : WriterState) (s' : S) (b : WriterState) (n : ℕ) (line : List ℕ) (answer : Answer A) (s'' : S) (c : WriterState)
      → ScriptDone Does lines s a s' b n → Does line s' (Some answer) s'' → AppendsFront b c (text_of answer) → ScriptCut Does (lines ++ line ∷ more) s a s'' c
  unfolding ScriptCut
  cut_push lines more s a s' b n line answer s'' c h d w = (lines, line, more, refl, s', b, n, h, answer, d, w)

  cut_wider : (lines others : List (List ℕ)) (s : S) (a : WriterState) (s' : S) (b : WriterState) → ScriptCut Does lines s a s' b → ScriptCut Does (lines ++ others) s a s' b
  unfolding ScriptCut
  cut_wider lines others s a s' b h = (
    h.0,
    h.1,
    h.2 ++ others,
    ap (λ (x : List (List ℕ)). x ++ others) h.3 ∙ append_assoc h.0 (h.1 ∷ h.2) others,
    h.4,
    h.5,
    h.6,
    h.7,
    h.8,
    h.9,
    h.10,
  )

  -- what broke in the first bytes broke in all of them
  pub cut_bytes : (read more : List ℕ) (s : S) (a : WriterState) (s' : S) (b : WriterState) → ScriptCut Does (ended_lines read) s a s' b → ScriptCut Does (ended_lines (read ++ more)) s a s' b
  cut_bytes read more s a s' b h =
      let front = lines_front read more in
      subst (λ (x : List (List ℕ)). ScriptCut Does x s a s' b) (sym front.1) (cut_wider (ended_lines read) front.0 s a s' b h)

  pub cut_is : (read same : List ℕ) (s : S) (a : WriterState) (s' : S) (b : WriterState) → read ≡ same → ScriptCut Does (ended_lines read) s a s' b → ScriptCut Does (ended_lines same) s a s' b
  cut_is read same s a s' b e h = subst (λ (x : List ℕ). ScriptCut Does (ended_lines x) s a s' b) e h

module _ {S A : Type 0} {Does : List ℕ → S → Option (Answer A) → S → Type 0} where
  -- a byte other than LF
  pub stands_byte : (read : List ℕ) (s : S) (a : WriterState) (s' : S) (b : WriterState) (n : ℕ) (buffer after : Option (List ℕ)) (byte : ℕ)
      → Stands Does read s a s' b n buffer → (byte ≡ 10 → ⊥) → after ≡ pushed buffer byte → Stands Does (read ++ byte ∷ []) s a s' b (n + 0) after
  stands_byte read s a s' b n buffer after byte h ne e =
      let other : nat_eq byte 10 ≡ false = ne_eqb byte 10 ne in
      record {
        done = rw (lines_at_other read byte other, add-zero) h.done;
        buffer_is = e ∙ (ap (λ (x : Option (List ℕ)). pushed x byte) h.buffer_is ∙ (kept_push (cut_at_lf read).last byte ∙ ap kept (sym (last_at_other read byte other))));
      }

  -- LF
  pub stands_line : (read : List ℕ) (s : S) (a : WriterState) (s' : S) (b : WriterState) (n : ℕ) (buffer after : Option (List ℕ)) (byte : ℕ) (answer : Option (Answer A)) (s'' : S) (c : WriterState) (k : ℕ)
      → Stands Does read s a s' b n buffer → byte ≡ 10 → ((piece : List ℕ) → buffer ≡ kept piece → Does (without_cr piece) s' answer s'')
      → Writes b c (texts_of (option_to_list answer)) [] → k ≡ length (option_to_list answer) → after ≡ Some []
      → Stands Does (read ++ byte ∷ []) s a s'' c (n + k) after
  stands_line read s a s' b n buffer after byte answer s'' c k h lf does w e nil =
      let is_lf : nat_eq byte 10 ≡ true = eq-eqb byte 10 lf in
      record {
        done = subst (λ (x : List (List ℕ)). ScriptDone Does x s a s'' c (n + k)) (sym (lines_at_lf read byte is_lf))
            (done_push Does (ended_lines read) s a s' b n (without_cr (cut_at_lf read).last) answer s'' c k h.done (does (cut_at_lf read).last h.buffer_is) w e);
        buffer_is = nil ∙ (sym kept_nil ∙ ap kept (sym (last_at_lf read byte is_lf)));
      }

  pub cut_line : (read : List ℕ) (s : S) (a : WriterState) (s' : S) (b : WriterState) (n : ℕ) (buffer : Option (List ℕ)) (byte : ℕ) (answer : Answer A) (s'' : S) (c : WriterState)
      → Stands Does read s a s' b n buffer → byte ≡ 10 → ((piece : List ℕ) → buffer ≡ kept piece → Does (without_cr piece) s' (Some answer) s'')
      → AppendsFront b c (text_of answer) → ScriptCut Does (ended_lines (read ++ byte ∷ [])) s a s'' c
  cut_line read s a s' b n buffer byte answer s'' c h lf does w =
      subst (λ (x : List (List ℕ)). ScriptCut Does x s a s'' c) (sym (lines_at_lf read byte (eq-eqb byte 10 lf)))
      (cut_push Does (ended_lines read) [] s a s' b n (without_cr (cut_at_lf read).last) answer s'' c h.done (does (cut_at_lf read).last h.buffer_is) w)

  -- the last line
  pub done_last : (read : List ℕ) (s : S) (a : WriterState) (s' : S) (b : WriterState) (n : ℕ) (buffer : Option (List ℕ)) (answer : Option (Answer A)) (s'' : S) (c : WriterState) (k : ℕ)
      → Stands Does read s a s' b n buffer → ((piece : List ℕ) → buffer ≡ kept piece → Does piece s' answer s'')
      → Writes b c (texts_of (option_to_list answer)) [] → k ≡ length (option_to_list answer) → ScriptDone Does (script_lines read) s a s'' c (n + k)
  done_last read s a s' b n buffer answer s'' c k h does w e =
      subst (λ (x : List (List ℕ)). ScriptDone Does x s a s'' c (n + k)) (sym (all_lines read))
      (done_push Does (ended_lines read) s a s' b n (cut_at_lf read).last answer s'' c k h.done (does (cut_at_lf read).last h.buffer_is) w e)

  pub cut_last : (read : List ℕ) (s : S) (a : WriterState) (s' : S) (b : WriterState) (n : ℕ) (buffer : Option (List ℕ)) (answer : Answer A) (s'' : S) (c : WriterState)
      → Stands Does read s a s' b n buffer → ((piece : List ℕ) → buffer ≡ kept piece → Does piece s' (Some answer) s'')
      → AppendsFront b c (text_of answer) → ScriptCut Does (script_lines read) s a s'' c
  cut_last read s a s' b n buffer answer s'' c h does w =
      subst (λ (x : List (List ℕ)). ScriptCut Does x s a s'' c) (sym (all_lines read))
      (cut_push Does (ended_lines read) [] s a s' b n (cut_at_lf read).last answer s'' c h.done (does (cut_at_lf read).last h.buffer_is) w)

  -- the same bytes, and the same count
  pub stands_is : (read same : List ℕ) (s : S) (a : WriterState) (s' : S) (b : WriterState) (n m : ℕ) (buffer : Option (List ℕ)) → read ≡ same → n ≡ m → Stands Does read s a s' b n buffer → Stands Does same s a s' b m buffer
  stands_is read same s a s' b n m buffer e f h = subst (λ (x : List ℕ). Stands Does x s a s' b m buffer) e (subst (λ (k : ℕ). Stands Does read s a s' b k buffer) f h)

  -- nothing is read yet
  pub stands_none : (s : S) (a : WriterState) (buffer : Option (List ℕ)) → buffer ≡ Some [] → Stands Does [] s a s a 0 buffer
  unfolding ScriptDone LinesRun ended_lines cut_at_lf
  stands_none s a buffer e = record {
    done = ([], (refl, refl), Writes-none a, refl);
    buffer_is = e ∙ sym kept_nil;
  }

-- the next byte of a chunk
pub chunk_more : (read bytes : List ℕ) (i : ℕ) → i < length bytes → (read ++ take i bytes) ++ get_or bytes i 0 ∷ [] ≡ read ++ take (i + 1) bytes
chunk_more read bytes i lt = append_assoc read (take i bytes) (get_or bytes i 0 ∷ []) ∙ ap (λ (t : List ℕ). read ++ t) (sym (take_more bytes i 0 lt))

pub chunk_rest : (read bytes : List ℕ) (i : ℕ) → (read ++ take i bytes) ++ drop i bytes ≡ read ++ bytes
chunk_rest read bytes i = append_assoc read (take i bytes) (drop i bytes) ∙ ap (λ (t : List ℕ). read ++ t) (take-append-drop i bytes)

pub chunk_all : (read bytes : List ℕ) (i : ℕ) → length bytes ≤ i → read ++ take i bytes ≡ read ++ bytes
chunk_all read bytes i h = ap (λ (t : List ℕ). read ++ t) (take_all i bytes h)

-- reads that gave bytes, and then other ones
calls_told : (a b c : Option (List ReadCall)) (given : List ℕ) (last : List ReadCall) → b ≡ with_calls a (map gave given ++ []) → c ≡ with_calls b last → c ≡ with_calls a (map gave given ++ last)
calls_told a b c given last first second =
    second ∙ ap (λ (k : Option (List ReadCall)). with_calls k last) first
    ∙ calls_more a (map gave given ++ []) last
    ∙ ap (λ (t : List ReadCall). with_calls a (t ++ last)) (append-nil (map gave given))

-- no read yet
reads_none : (r : ReaderState) → Reads r r [] 0 []
reads_none r = record { consumed = Consumes-nil r.left; given = []; reads = calls_none r.reads; counted = refl; some = All-nil GivesSome; all = refl }

-- a read that gave some bytes
pub reads_more : (old mid new : ReaderState) (read buffer : List ℕ) (n k : ℕ) → Reads old mid read k [] → Consumes mid.left new.left (take n buffer) → new.reads ≡ with_calls mid.reads (record { room = length buffer; gave = Some n } ∷ []) → length buffer ≡ 4096 → n ≤ length buffer → (n ≡ 0 → ⊥) → Reads old new (read ++ take n buffer) (k + 1) []
reads_more old mid new read buffer n k h consumed calls size within some =
    let told : map gave h.given ++ gave n ∷ [] ≡ map gave (h.given ++ n ∷ []) ++ [] = sym (append-nil (map gave (h.given ++ n ∷ [])) ∙ map-append gave h.given (n ∷ [])) in
    record {
      consumed = Consumes-trans old.left mid.left new.left read (take n buffer) h.consumed consumed;
      given = h.given ++ n ∷ [];
      reads = calls_told old.reads mid.reads new.reads h.given (gave n ∷ []) h.reads (calls ∙ ap (λ (room : ℕ). with_calls mid.reads (record { room = room; gave = Some n } ∷ [])) size)
          ∙ ap (λ (t : List ReadCall). with_calls old.reads t) told;
      counted = omega (arith, h.counted, length-append h.given (n ∷ []));
      some = All-push GivesSome h.given n h.some (omega arith, omega arith);
      all = omega (arith, h.all, length-append read (take n buffer), length-take n buffer, sum_by_push (λ (x : ℕ). x) h.given n);
    }

-- one that failed
pub reads_failed : (old mid new : ReaderState) (read buffer : List ℕ) (k : ℕ) → Reads old mid read k [] → Keeps mid.left new.left → new.reads ≡ with_calls mid.reads (record { room = length buffer; gave = None } ∷ []) → length buffer ≡ 4096 → Reads old new read k (failed ∷ [])
reads_failed old mid new read buffer k h kept calls size = record {
  consumed = Consumes-kept old.left mid.left new.left read h.consumed kept;
  given = h.given;
  reads = calls_told old.reads mid.reads new.reads h.given (failed ∷ []) h.reads (calls ∙ ap (λ (room : ℕ). with_calls mid.reads (record { room = room; gave = None } ∷ [])) size);
  counted = h.counted;
  some = h.some;
  all = h.all;
}

-- the end
pub reads_ended : (old mid new : ReaderState) (read buffer : List ℕ) (n k : ℕ) → Reads old mid read k [] → Consumes mid.left new.left (take n buffer) → new.reads ≡ with_calls mid.reads (record { room = length buffer; gave = Some n } ∷ []) → length buffer ≡ 4096 → n ≡ 0 → Reads old new read k (ended ∷ [])
reads_ended old mid new read buffer n k h consumed calls size none =
    let all : Consumes old.left new.left (read ++ take n buffer) = Consumes-trans old.left mid.left new.left read (take n buffer) h.consumed consumed in
    let same : read ++ take n buffer ≡ read = ap (λ (j : ℕ). read ++ take j buffer) none ∙ append-nil read in
    let told : new.reads ≡ with_calls mid.reads (ended ∷ []) = calls ∙ ap (λ (room : ℕ). with_calls mid.reads (record { room = room; gave = Some n } ∷ [])) size ∙ ap (λ (j : ℕ). with_calls mid.reads (gave j ∷ [])) none in
    record {
      consumed = subst (λ (t : List ℕ). Consumes old.left new.left t) same all;
      given = h.given;
      reads = calls_told old.reads mid.reads new.reads h.given (ended ∷ []) h.reads told;
      counted = h.counted;
      some = h.some;
      all = h.all;
    }

-- where a session stands after k reads, each of 1 to 4,096 bytes
pub record Reached {S A : Type 0} (Does : List ℕ → S → Option (Answer A) → S → Type 0) (k : ℕ) (old new : ReaderState) (s : S) (a : WriterState) (s' : S) (b : WriterState) (n : ℕ) (buffer : Option (List ℕ)) : Type 0 where
  pub read : List ℕ
  pub reads : Reads old new read k []
  pub stands : Stands Does read s a s' b n buffer

module _ {S A : Type 0} {Does : List ℕ → S → Option (Answer A) → S → Type 0} where
  pub reached_none : (r : ReaderState) (s : S) (a : WriterState) (buffer : Option (List ℕ)) → buffer ≡ Some [] → Reached Does 0 r r s a s a 0 buffer
  reached_none r s a buffer e = record { read = []; reads = reads_none r; stands = stands_none s a buffer e }

  pub reached_more : (k : ℕ) (old mid new : ReaderState) (s : S) (a : WriterState) (s' : S) (b : WriterState) (n : ℕ) (buffer : Option (List ℕ)) (chunk : List ℕ) (len : ℕ) (s'' : S) (c : WriterState) (m : ℕ) (after : Option (List ℕ))
      (h : Reached Does k old mid s a s' b n buffer) → Consumes mid.left new.left (take len chunk) → new.reads ≡ with_calls mid.reads (record { room = length chunk; gave = Some len } ∷ []) → length chunk ≡ 4096 → len ≤ length chunk → (len ≡ 0 → ⊥) → Stands Does (h.read ++ take len chunk) s a s'' c m after → Reached Does (k + 1) old new s a s'' c m after
  reached_more k old mid new s a s' b n buffer chunk len s'' c m after h e calls size within some t =
      record { read = h.read ++ take len chunk; reads = reads_more old mid new h.read chunk len k h.reads e calls size within some; stands = t }

pub some_room : (buffer : List ℕ) → length buffer ≡ 4096 → 0 < length buffer
some_room buffer size = omega arith
