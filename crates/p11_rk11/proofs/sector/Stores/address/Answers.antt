use Rattle.std.proofs.Common.{◌<◌, ℕ, List, length, sym, ◌∙◌, subst, arith}
use Rattle.std.proofs.lemmas.List.FromFn.{get_or-map-range_with_len, length-map-range_with_len}
use Rattle.p11_rk11.specs.Address.{word_address}
use Rattle.p11_rk11.proofs.sector.Stores.address.Goals as goal

pub of_word-requires : goal.of_word-requires
of_word-requires c =
    let P : List ℕ → Type 0 = λ l. c.args.k < length l in
    let lt = subst P (sym c.self.view_is) c.requires in
    omega (arith, lt, c.self.invariant, length-map-range_with_len (word_address c.self.inside.span.start c.self.inside.span.stays) 0 c.self.inside.span.count)

pub returns : goal.returns
returns c =
    let f : ℕ → ℕ = word_address c.self.inside.span.start c.self.inside.span.stays in
    let P : List ℕ → Type 0 = λ l. c.args.k < length l in
    let lt = subst P (sym c.self.view_is) c.requires in
    let below : c.args.k < c.self.inside.span.count = omega (arith, lt, length-map-range_with_len f 0 c.self.inside.span.count) in
    rw (← c.self.view_is)
    (c.of_word.ensures ∙ sym (get_or-map-range_with_len f 0 c.self.inside.span.count c.args.k c.args.k 0 below (omega arith)))
