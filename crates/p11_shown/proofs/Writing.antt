-- What a writer has taken of a text so far, and what is left.
use Rattle.std.proofs.Common.{◌≡◌, ℕ, ◌-◌, List, [], ◌++◌, length, take, drop, Option, None, Some, refl, sym, ap, subst, ◌∙◌, append_assoc, append-nil, take-append-drop, arith}
use Rattle.std.proofs.lemmas.List.{nil_from_length, take_all, length-drop}
use Rattle.std.specs.Io.KnownBytes.{Appends, Keeps}
use Rattle.std.proofs.KnownBytes.{Appends-nil, Appends-trans}
use Rattle.p11_shown.specs.Outlets.{AppendsFront}

-- a front of the text is taken, and the rest is left
pub record Taken (old new : Option (List ℕ)) (text rest : List ℕ) : Type 0 where
  pub front : List ℕ
  pub taken : Appends old new front
  pub split : text ≡ front ++ rest

pub none_written : (s : Option (List ℕ)) (text : List ℕ) → Taken s s text text
none_written s text = record { front = []; taken = Appends-nil s; split = refl }

-- what `&rest[n..]` leaves
pub more_written : (a b c : Option (List ℕ)) (text rest : List ℕ) (n len : ℕ) → Taken a b text rest → Appends b c (take n rest) → len ≡ length rest - n → Taken a c text (take len (drop n rest))
more_written a b c text rest n len so_far more e =
    let whole : take len (drop n rest) ≡ drop n rest = take_all len (drop n rest) (omega (arith, length-drop n rest)) in
    let left : Taken a c text (drop n rest) = record {
      front = so_far.front ++ take n rest;
      taken = Appends-trans a b c so_far.front (take n rest) so_far.taken more;
      split = so_far.split ∙ ap (λ (t : List ℕ). so_far.front ++ t) (sym (take-append-drop n rest)) ∙ sym (append_assoc so_far.front (take n rest) (drop n rest));
    } in
    subst (λ (t : List ℕ). Taken a c text t) (sym whole) left

pub all_written : (a b : Option (List ℕ)) (text rest : List ℕ) → Taken a b text rest → length rest ≡ 0 → Appends a b text
all_written a b text rest so_far none =
    let nil : rest ≡ [] = nil_from_length rest none in
    let whole : so_far.front ≡ text = sym (so_far.split ∙ ap (λ (t : List ℕ). so_far.front ++ t) nil ∙ append-nil so_far.front) in
    subst (λ (t : List ℕ). Appends a b t) whole so_far.taken

kept : (a b c : Option (List ℕ)) (front : List ℕ) → Appends a b front → Keeps b c → Appends a c front
kept None b c front p q = tt
kept (Some x) None c front p q = absurd p
kept (Some x) (Some y) None front p q = absurd q
kept (Some x) (Some y) (Some z) front p q = q ∙ p

-- the last write failed
pub front_written : (a b c : Option (List ℕ)) (text rest : List ℕ) → Taken a b text rest → Keeps b c → AppendsFront a c text
front_written a b c text rest so_far same = (so_far.front, rest, so_far.split, kept a b c so_far.front so_far.taken same)
