-- What the reads of a script in memory tell.
use Rattle.std.proofs.Common.{◌≡◌, ◌<◌, ◌≤◌, ◌+◌, ◌*◌, arith, ℕ, List, [], ◌∷◌, ◌++◌, length, map, Option, Some, refl, ap, ◌∙◌, subst, append-nil}
use Rattle.std.specs.Prelude.{min, All, sum, sum_by, unwrap_or}
use Rattle.std.specs.Io.KnownBytes.{Consumes}
use Rattle.std.proofs.lemmas.List.{length-append}
use Rattle.std.proofs.lemmas.List.Elements.{All-head, All-tail}
use Rattle.std.proofs.lemmas.List.Sums.{sum_by-cons, sum_by_push}
use Rattle.p11_panel.specs.declared.read_call.ReadCall.{ReadCall}
use Rattle.p11_panel.specs.Readers.{Reads, GivesSome, gave, failed}
use Rattle.p11_handles.specs.Calls.{TookManyReads}
use Rattle.p11_handles.specs.ScriptReads.{given_by, Filled}

-- one more read, of the bytes that were left before it
pub filled_push : (reads : List ReadCall) (read : ReadCall) (before after : ℕ) → Filled reads before → before ≡ given_by read + after → read.gave ≡ Some (min read.room before) → Filled (reads ++ read ∷ []) after
filled_push [] read before after filled split is =
    let same : before ≡ given_by read + (0 + after) = omega (arith, split) in
    (is ∙ ap (λ (k : ℕ). Some (min read.room k)) same, tt)
filled_push (first ∷ reads) read before after filled split is =
    let same : given_by first + (sum_by given_by reads + before) ≡ given_by first + (sum_by given_by (reads ++ read ∷ []) + after) = omega (arith, split, sum_by_push given_by reads read) in
    (filled.0 ∙ ap (λ (k : ℕ). Some (min first.room k)) same, filled_push reads read before after filled.1 split is)

not_failed : (reads : List ReadCall) (left : ℕ) → Filled (reads ++ failed ∷ []) left → ⊥
not_failed [] left filled = let e = filled.0 in cc
not_failed (first ∷ reads) left filled = not_failed reads left filled.1

given_all : (given : List ℕ) → sum_by given_by (map gave given) ≡ sum given
given_all [] = refl
given_all (n ∷ given) = omega (arith, sum_by-cons given_by (gave n) (map gave given), sum_by-cons (λ (x : ℕ). x) n given, given_all given)

-- a read that left some bytes gave as many as it had room for
full : (n more : ℕ) → Some n ≡ Some (min 4096 (n + more)) → 0 < more → n ≡ 4096
full n more e some = let same : n ≡ min 4096 (n + more) = ap (λ (o : Option ℕ). unwrap_or o 0) e in omega (arith, same, some)

-- of reads that each gave some bytes all but the last one gave 4,096
counted : (given : List ℕ) (left : ℕ) → Filled (map gave given) left → All GivesSome given → 4096 * length given ≤ sum given + 4095
counted [] left filled some = omega arith
counted (n ∷ []) left filled some = let one = All-head GivesSome n [] some in omega (arith, one.0)
counted (n ∷ m ∷ given) left filled some =
    let next = All-head GivesSome m given (All-tail GivesSome n (m ∷ given) some) in
    let more : 0 < sum_by given_by (map gave (m ∷ given)) + left = omega (arith, next.0, given_all (m ∷ given), sum_by-cons (λ (x : ℕ). x) m given) in
    omega (arith, full n (sum_by given_by (map gave (m ∷ given)) + left) filled.0 more, sum_by-cons (λ (x : ℕ). x) n (m ∷ given), counted (m ∷ given) left filled.1 (All-tail GivesSome n (m ∷ given) some))

-- the reads of a script of which nothing was read
module _ (script left read : List ℕ) (first made : List ReadCall) (k n : ℕ) (none : first ≡ []) (filled : Filled made k) where
  made_is : (last : List ReadCall) (h : Reads (record { left = Some script; reads = Some first }) (record { left = Some left; reads = Some made }) read n last) → made ≡ map gave h.given ++ last
  made_is last h = ap (λ (o : Option (List ReadCall)). unwrap_or o []) h.reads ∙ ap (λ (l : List ReadCall). l ++ (map gave h.given ++ last)) none

  -- 1,000,000 of them are too many
  pub many_reads : Reads (record { left = Some script; reads = Some first }) (record { left = Some left; reads = Some made }) read n [] → n ≡ 1000000 → TookManyReads read
  many_reads h many =
      let all : Filled (map gave h.given) k = subst (λ (l : List ReadCall). Filled l k) (made_is [] h ∙ append-nil (map gave h.given)) filled in
      omega (arith, many, h.counted, h.all, counted h.given k all h.some)

  -- none of them failed
  pub no_failure : Reads (record { left = Some script; reads = Some first }) (record { left = Some left; reads = Some made }) read n (failed ∷ []) → ⊥
  no_failure h = not_failed (map gave h.given) k (subst (λ (l : List ReadCall). Filled l k) (made_is (failed ∷ []) h) filled)

-- what is read of the bytes that the script has
pub of_script : (given script left read : List ℕ) → given ≡ script → Consumes (Some given) (Some left) read → Consumes (Some script) (Some left) read
of_script given script left read same consumed = let P : List ℕ → Type 0 = λ s. Consumes (Some s) (Some left) read in subst P same consumed

-- too many reads of its front are too many of it
pub many_of : (script left read : List ℕ) → Consumes (Some script) (Some left) read → TookManyReads read → TookManyReads script
many_of script left read consumed many = omega (arith, many, ap (λ (l : List ℕ). length l) consumed, length-append read left)
