use Rattle.std.proofs.Common.{arith, ◌∙◌, ap, nat_eq, vec_capacity}
use Rattle.std.specs.List.{list_any}
use Rattle.indexmap.specs.IndexMap.{get, index_map_len}
use Rattle.p11_overlay.specs.Kept.Prepared.{DriveState}
use Rattle.p11_overlay.specs.Drive.{written}
use Rattle.p11_overlay.proofs.Keeping.{contents_written, kept_written, room_for_one}
use Rattle.p11_overlay.proofs.Over.{written_sector}
use Rattle.p11_overlay.proofs.drive.Drive.write.Goals as goal

pub add_once-requires : goal.add_once-requires
add_once-requires g c =
    let p = ap (λ (d : DriveState). list_any (nat_eq c.args.n) d.prepared) c.self.view_is in
    λ new. omega (arith, room_for_one _ c.self.inside.kept.entries c.args.n _ _ c.self.invariant (p ∙ c.requires.ready) new)

pub invariant_of-self : goal.invariant_of-self
invariant_of-self g c =
    rw c.add_once.ensures.items
    (kept_written c.self.inside.base.items (λ q. get nat_eq c.self.inside.kept q) (λ q. get nat_eq c.rewrite.new.kept q) c.args.n c.args.bytes.now _ (index_map_len c.rewrite.new.kept) _ _ (vec_capacity c.add_once.new.list) c.self.invariant c.requires.within c.told-bytes c.rewrite.ensures.updates (omega (arith, c.self.invariant.room_for_all, c.rewrite.ensures.len, c.add_once.ensures.capacity)))

pub returns-clause-contents : goal.returns-clause-contents
returns-clause-contents g c =
    let sectors = written_sector c.self.inside.base.items (λ q. get nat_eq c.self.inside.kept q) (λ q. get nat_eq c.rewrite.new.kept q) c.args.n c.args.bytes.now c.requires.within c.rewrite.ensures.updates in
    contents_written c.self.inside.base.items _ _ c.self.inside.is_protected _ _ c.args.n c.args.bytes.now sectors c.add_once.ensures.items
    ∙ ap (λ (d : DriveState). written d.contents c.args.n c.args.bytes.now) c.self.view_is
