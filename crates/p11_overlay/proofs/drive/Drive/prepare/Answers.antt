use Rattle.std.proofs.Common.{arith, ◌≡◌, ◌∙◌, ap, sym, nat_eq, is_some, true≢false, false, refl, vec_capacity}
use Rattle.std.specs.List.{list_any}
use Rattle.std.proofs.lemmas.Map.Made.{is_some-lookup}
use Rattle.indexmap.specs.IndexMap.{get, index_map_len, keys}
use Rattle.p11_overlay.specs.Kept.Prepared.{DriveState}
use Rattle.p11_overlay.specs.Kept.Sectors.{base_sector}
use Rattle.p11_overlay.proofs.Keeping.{contents_same, kept_prepared, not_kept, put_here, put_there}
use Rattle.p11_overlay.proofs.Over.{prepared_sector}
use Rattle.p11_overlay.proofs.drive.Drive.prepare.Goals as goal

pub returns-then-contains_key-clause-ok : goal.returns-then-contains_key-clause-ok
returns-then-contains_key-clause-ok g c =
    let p = ap (λ (d : DriveState). list_any (nat_eq c.args.n) d.prepared) c.self.view_is in
    sym p ∙ sym (is_some-lookup (nat_eq c.args.n) c.self.inside.kept.entries) ∙ sym c.contains_key.ensures ∙ c.if-contains_key.true

pub returns-in_err-make_room-clause-prepared : goal.returns-in_err-make_room-clause-prepared
returns-in_err-make_room-clause-prepared g c =
    let p = ap (λ (d : DriveState). list_any (nat_eq c.args.n) d.prepared) c.self.view_is in
    let absent : list_any (nat_eq c.args.n) (keys c.self.inside.kept) ≡ false =
    sym (is_some-lookup (nat_eq c.args.n) c.self.inside.kept.entries) ∙ sym c.contains_key.ensures ∙ c.if-contains_key.false in
    λ h. absurd (true≢false (sym h ∙ sym p ∙ absent))

pub returns-in_err-keep-clause-prepared : goal.returns-in_err-keep-clause-prepared
returns-in_err-keep-clause-prepared g c =
    let p = ap (λ (d : DriveState). list_any (nat_eq c.args.n) d.prepared) c.self.view_is in
    let absent : list_any (nat_eq c.args.n) (keys c.self.inside.kept) ≡ false =
    sym (is_some-lookup (nat_eq c.args.n) c.self.inside.kept.entries) ∙ sym c.contains_key.ensures ∙ c.if-contains_key.false in
    λ h. absurd (true≢false (sym h ∙ sym p ∙ absent))

pub invariant_of-self-2 : goal.invariant_of-self-2
invariant_of-self-2 g c =
    let own = c.mounted_sector-bytes.ensures ∙ ap (λ base. base_sector base c.args.n) c.deref.ensures.value in
    rw c.make_room.ensures.items
    (kept_prepared c.self.inside.base.items (λ q. get nat_eq c.self.inside.kept q) (λ q. get nat_eq c.keep.new.kept q) c.args.n c.mounted_sector-bytes.result.now _ (index_map_len c.keep.new.kept) _ _ (vec_capacity c.make_room.new.list) c.self.invariant own c.in_ok-keep.ensures.updates (omega (arith, c.in_ok-keep.ensures.len, c.in_ok-make_room.ensures.room)))

pub returns-clause-contents : goal.returns-clause-contents
returns-clause-contents g c =
    let own = c.mounted_sector-bytes.ensures ∙ ap (λ base. base_sector base c.args.n) c.deref.ensures.value in
    let none = not_kept (get nat_eq c.self.inside.kept c.args.n) (sym c.contains_key.ensures ∙ c.if-contains_key.false) in
    let sectors = prepared_sector c.self.inside.base.items (λ q. get nat_eq c.self.inside.kept q) (λ q. get nat_eq c.keep.new.kept q) c.args.n c.mounted_sector-bytes.result.now none own c.in_ok-keep.ensures.updates in
    contents_same c.self.inside.base.items _ _ c.self.inside.is_protected _ _ sectors c.make_room.ensures.items
    ∙ ap (λ (d : DriveState). d.contents) c.self.view_is

pub returns-clause-ok : goal.returns-clause-ok
returns-clause-ok g c =
    sym (is_some-lookup (nat_eq c.args.n) c.keep.new.kept.entries) ∙ ap is_some (c.in_ok-keep.ensures.updates c.args.n)
    ∙ put_here (λ q. get nat_eq c.self.inside.kept q) c.args.n c.args.n c.mounted_sector-bytes.result.now refl

pub returns-clause-others : goal.returns-clause-others
returns-clause-others g c =
    λ m h.
    let p = ap (λ (d : DriveState). list_any (nat_eq m) d.prepared) c.self.view_is in
    sym (is_some-lookup (nat_eq m) c.keep.new.kept.entries)
    ∙ put_there (λ q. get nat_eq c.self.inside.kept q) (get nat_eq c.keep.new.kept m) c.args.n m c.mounted_sector-bytes.result.now (c.in_ok-keep.ensures.updates m)
    (is_some-lookup (nat_eq m) c.self.inside.kept.entries ∙ p ∙ h)
