-- What has been written so far, and what is left.
use Rattle.std.proofs.Common.{rules, ◌≡◌, ◌≤◌, ◌-◌, ◌+◌, ◌*◌, ◌%◌, ◌<◌, get_or, add-one, drop-cons, arith, ℕ, List, [], ◌++◌, length, take, drop, Option, refl, sym, ap, subst, ◌∙◌, append_assoc, append-nil, take-append-drop, codes, ◌∷◌}
use Rattle.std.proofs.lemmas.List.{take_all, drop_all, length-drop, length-append}
use Rattle.std.specs.List.{flat_map}
use Rattle.std.specs.Prelude.{Result, Ok, Err, OnOk, OnErr, false}
use Rattle.std.specs.Result.{is_ok, IsErr}
use Rattle.p11_lines.specs.AnswerText.{six_octals, exam_text, exam_texts, typed_text, drive_text, drives_text}
use Rattle.p11_unibus.specs.declared.devices.DriveShown.{DriveShown}
use Rattle.p11_lines.specs.Escapes.{escaped}
use Rattle.p11_lines.specs.Writers.{WriterState, Writes}
use Rattle.p11_lines.specs.Calls.Writing.{Wrote, Puts}
use Rattle.p11_lines.specs.Written.{AppendsFront}
use Rattle.p11_lines.specs.declared.output.Broken.{Broken}
use Rattle.p11_lines.proofs.Calls.{Writes-none, Writes-trans}

pub Wrote-none : (a : WriterState) (text : List ℕ) → Wrote a a text text
Wrote-none a text = record { front = []; written = Writes-none a; split = refl }

-- of the text that was left
pub Wrote-trans : {a b c : WriterState} {text rest kept : List ℕ} → Wrote a b text rest → Wrote b c rest kept → Wrote a c text kept
Wrote-trans {a} {b} {c} {kept = kept} so_far now_is = record {
  front = so_far.front ++ now_is.front;
  written = Writes-trans a b c so_far.front now_is.front _ so_far.written now_is.written;
  split = so_far.split ∙ ap (λ (t : List ℕ). so_far.front ++ t) now_is.split ∙ sym (append_assoc so_far.front now_is.front kept);
}

pub AppendsFront-trans : {a b c : WriterState} {text rest : List ℕ} → Wrote a b text rest → AppendsFront b c rest → AppendsFront a c text
AppendsFront-trans {a} {b} {c} so_far now_is = record {
  front = so_far.front ++ now_is.front;
  back = now_is.back;
  written = Writes-trans a b c so_far.front now_is.front _ so_far.written now_is.written;
  split = so_far.split ∙ ap (λ (t : List ℕ). so_far.front ++ t) now_is.split ∙ sym (append_assoc so_far.front now_is.front now_is.back);
  unwritten = now_is.unwritten;
}

-- what `&rest[n..]` is, past n bytes more
pub Wrote-slice : {a b c : WriterState} {text : List ℕ} (rest : List ℕ) (n : ℕ) {len : ℕ} → Wrote a b text rest → Writes b c (take n rest) [] → len ≡ length rest - n → Wrote a c text (take len (drop n rest))
Wrote-slice rest n {len} so_far more e =
    let whole : take len (drop n rest) ≡ drop n rest = take_all len (drop n rest) (omega (arith, length-drop n rest)) in
    Wrote-trans so_far (record { front = take n rest; written = more; split = rw whole (sym (take-append-drop n rest)) })

-- all that was kept is written
pub Appends-kept-all : {a b c : WriterState} {text kept : List ℕ} → Wrote a b text kept → Writes b c kept [] → Writes a c text []
Appends-kept-all {a} {b} {c} {kept = kept} so_far done =
    subst (λ (t : List ℕ). Writes a c t []) (sym so_far.split) (Writes-trans a b c so_far.front kept _ so_far.written done)

-- a longer text, after what was kept
Wrote-wider : {a b : WriterState} (kept text next : List ℕ) {now_kept : List ℕ} → Wrote a b (kept ++ text) now_kept → Wrote a b (kept ++ (text ++ next)) (now_kept ++ next)
Wrote-wider kept text next {now_kept} so_far = record {
  front = so_far.front;
  written = so_far.written;
  split = sym (append_assoc kept text next) ∙ ap (λ (t : List ℕ). t ++ next) so_far.split ∙ append_assoc so_far.front now_kept next;
}

pub AppendsFront_wider : {a b : WriterState} (text next : List ℕ) → AppendsFront a b text → AppendsFront a b (text ++ next)
AppendsFront_wider text next now_is = record {
  front = now_is.front;
  back = now_is.back ++ next;
  written = now_is.written;
  split = ap (λ (t : List ℕ). t ++ next) now_is.split ∙ append_assoc now_is.front now_is.back next;
  unwritten = omega (arith, now_is.unwritten, length-append now_is.back next);
}

-- the pieces from i on begin with the one at i
pub flat_map_drop : {X : Type 0} (f : X → List ℕ) (xs : List X) (i : ℕ) (d : X) → i < length xs → flat_map f (drop i xs) ≡ f (get_or xs i d) ++ flat_map f (drop (i + 1) xs)
flat_map_drop f xs i d short = rw (add-one, drop-cons xs i d short) refl

-- an address is written by its low 18 bits, which are those of its low 32
six_octals_low : (address low : ℕ) → low ≡ address % 4294967296 → six_octals low ≡ six_octals address
unfolding six_octals
six_octals_low address low same = rw same (grind arith)

pub exam_texts_drop : (address : ℕ) (words : List ℕ) (i at : ℕ) → i < length words → at ≡ (address + 2 * i) % 4294967296
    → exam_texts (address + 2 * i) (drop i words) ≡ exam_text at (get_or words i 0) ++ exam_texts (address + 2 * (i + 1)) (drop (i + 1) words)
unfolding exam_texts
exam_texts_drop address words i at short at_is =
    let next : address + 2 * i + 2 ≡ address + 2 * (i + 1) = omega arith in
    rw (drop-cons words i 0 short, next, add-one, six_octals_low (address + 2 * i) at at_is) refl

pub drives_text_drop : (drives : List (Option DriveShown)) (i : ℕ) (d : Option DriveShown) → i < length drives
    → drives_text i (drop i drives) ≡ drive_text i (get_or drives i d) ++ drives_text (i + 1) (drop (i + 1) drives)
unfolding drives_text
drives_text_drop drives i d short = rw (drop-cons drives i d short, add-one) refl

-- past the last of them none is left
pub flat_map_past : {X : Type 0} (f : X → List ℕ) (xs : List X) (i : ℕ) → length xs ≤ i → flat_map f (drop i xs) ≡ []
flat_map_past f xs i past = rw (drop_all i xs past) refl

pub exam_texts_past : (address : ℕ) (words : List ℕ) (i : ℕ) → length words ≤ i → exam_texts address (drop i words) ≡ []
unfolding exam_texts
exam_texts_past address words i past = rw (drop_all i words past) refl

pub drives_text_past : (drives : List (Option DriveShown)) (n i : ℕ) → length drives ≤ i → drives_text n (drop i drives) ≡ []
unfolding drives_text
drives_text_past drives n i past = rw (drop_all i drives past) refl

-- where the call didn't succeed, what its failure says holds
pub OnErr-holds : {T E P : Type 0} (r : Result T E) → false ≡ is_ok r → OnErr r P → P
OnErr-holds (Ok v) e p = absurd cc
OnErr-holds (Err x) e p = p

pub OnErr-map : {T E P Q : Type 0} (r : Result T E) → (P → Q) → OnErr r P → OnErr r Q
OnErr-map (Ok v) f p = tt
OnErr-map (Err e) f p = f p

pub OnOk-map : {T E P Q : Type 0} (r : Result T E) → (P → Q) → OnOk r P → OnOk r Q
OnOk-map (Ok v) f p = f p
OnOk-map (Err e) f p = tt

-- the line of the typed bytes
pub typed_text-none : (typed : List ℕ) → length typed ≡ 0 → typed_text typed ≡ []
unfolding typed_text
typed_text-none [] none = refl
typed_text-none (byte ∷ typed) none = absurd (omega (arith, none))

pub typed_text-some : (typed : List ℕ) → 0 < length typed → typed_text typed ≡ codes "TTY " ++ (escaped typed ++ codes "\n")
unfolding typed_text
typed_text-some [] some = absurd (omega (arith, some))
typed_text-some (byte ∷ typed) some = refl

-- a text, and one after it
pub puts_then : {a b c : WriterState} {kept text next now_kept then_kept : List ℕ} {r : Result (Unit {0}) Broken}
    → Puts a kept text b now_kept (Ok tt) → Puts b now_kept next c then_kept r → Puts a kept (text ++ next) c then_kept r
puts_then {kept = kept} {text} {next} {r = r} first second = record {
  done = OnOk-map r (Wrote-trans (Wrote-wider kept text next first.done)) second.done;
  broken = OnErr-map r (AppendsFront-trans (Wrote-wider kept text next first.done)) second.broken;
}

-- a front of the text
pub puts_broken : {a b : WriterState} {kept text now_kept : List ℕ} {r : Result (Unit {0}) Broken}
    → IsErr r → AppendsFront a b (kept ++ text) → Puts a kept text b now_kept r
puts_broken {r = Ok v} err front = absurd (search rules)
puts_broken {r = Err e} err front = record { done = tt; broken = front }

-- a front of the text, and none of the one after it
pub puts_front : {a b : WriterState} {kept text : List ℕ} (next : List ℕ) {now_kept : List ℕ} {e : Broken}
    → Puts a kept text b now_kept (Err e) → Puts a kept (text ++ next) b now_kept (Err e)
puts_front {a} {b} {kept} {text} next first =
    record { done = tt; broken = subst (λ (t : List ℕ). AppendsFront a b t) (append_assoc kept text next) (AppendsFront_wider (kept ++ text) next first.broken) }

-- a failure that is handed on
pub puts_failed : {a b : WriterState} {kept text now_kept : List ℕ} {e : Broken} {r : Result (Unit {0}) Broken}
    → IsErr r → Puts a kept text b now_kept (Err e) → Puts a kept text b now_kept r
puts_failed err first = puts_broken err first.broken

-- a failure in a text, and none of the one after it
pub puts_cut : {a b : WriterState} {kept text whole now_kept : List ℕ} {e : Broken} {r : Result (Unit {0}) Broken}
    → IsErr r → Puts a kept text b now_kept (Err e) → (next : List ℕ) → whole ≡ text ++ next → Puts a kept whole b now_kept r
puts_cut {a} {b} {kept} err first next same = puts_broken err (subst (λ (t : List ℕ). AppendsFront a b (kept ++ t)) (sym same) (puts_front next first).broken)

-- a text by another spelling
pub puts_all : {a b : WriterState} {kept text whole now_kept : List ℕ} {r : Result (Unit {0}) Broken} → Puts a kept text b now_kept r → whole ≡ text → Puts a kept whole b now_kept r
puts_all {a} {b} {kept} {now_kept = now_kept} {r} put same = subst (λ (t : List ℕ). Puts a kept t b now_kept r) (sym same) put

-- no text
pub puts_none : {a : WriterState} {kept text : List ℕ} {v : Unit {0}} → text ≡ [] → Puts a kept text a kept (Ok v)
puts_none {a} {kept} {text} none =
    record { done = record { front = []; written = Writes-none a; split = ap (λ (t : List ℕ). kept ++ t) none ∙ append-nil kept }; broken = tt }

-- what was kept is written, and then a piece, or a front of it
pub puts_through : {a b c : WriterState} {kept piece none : List ℕ} {r : Result (Unit {0}) Broken}
    → Writes a b kept [] → none ≡ [] → OnOk r (Writes b c piece []) → OnErr r (AppendsFront b c piece) → Puts a kept piece c none r
puts_through {a} {b} {c} {kept} {piece} {none} {r} emptied nothing written front =
    let first : Wrote a b (kept ++ piece) piece = record { front = kept; written = emptied; split = refl } in
    let all : piece ≡ piece ++ none = sym (ap (λ (t : List ℕ). piece ++ t) nothing ∙ append-nil piece) in
    record {
      done = OnOk-map r (λ (w : Writes b c piece []). Wrote-trans first (record { front = piece; written = w; split = all })) written;
      broken = OnErr-map r (AppendsFront-trans first) front;
    }

-- a text, where nothing was kept
pub put_first : {a b : WriterState} {none text kept : List ℕ} {v : Unit {0}} → none ≡ [] → Puts a none text b kept (Ok v) → Wrote a b text kept
put_first {a} {b} {text = text} {kept} nothing put = subst (λ (t : List ℕ). Wrote a b (t ++ text) kept) nothing put.done

-- In a loop, some text is left after what is kept: one piece more of it is put,
pub piece_put : {a b c : WriterState} {text kept rest piece : List ℕ} (more : List ℕ) {now_kept : List ℕ} {v : Unit {0}}
    → Wrote a b text (kept ++ rest) → rest ≡ piece ++ more → Puts b kept piece c now_kept (Ok v) → Wrote a c text (now_kept ++ more)
piece_put {b = b} {c} {kept = kept} {piece = piece} more {now_kept} so_far rest_is put =
    Wrote-trans so_far (subst (λ (t : List ℕ). Wrote b c (kept ++ t) (now_kept ++ more)) (sym rest_is) (Wrote-wider kept piece more put.done))

-- or a front of it,
pub piece_broken : {a b c : WriterState} {before text kept rest piece : List ℕ} (more : List ℕ) {now_kept then_kept : List ℕ} {e : Broken} {r : Result (Unit {0}) Broken}
    → IsErr r → Wrote a b (before ++ text) (kept ++ rest) → rest ≡ piece ++ more → Puts b kept piece c now_kept (Err e) → Puts a before text c then_kept r
piece_broken {b = b} {c} {kept = kept} more err so_far rest_is put =
    puts_broken err (AppendsFront-trans so_far (subst (λ (t : List ℕ). AppendsFront b c (kept ++ t)) (sym rest_is) (puts_front more put).broken))

-- or none is left.
pub pieces_put : {a b : WriterState} {before text kept rest : List ℕ} {v : Unit {0}}
    → Wrote a b (before ++ text) (kept ++ rest) → rest ≡ [] → Puts a before text b kept (Ok v)
pieces_put {a} {b} {before} {text} {kept} so_far none =
    record { done = subst (λ (t : List ℕ). Wrote a b (before ++ text) t) (ap (λ (t : List ℕ). kept ++ t) none ∙ append-nil kept) so_far; broken = tt }
