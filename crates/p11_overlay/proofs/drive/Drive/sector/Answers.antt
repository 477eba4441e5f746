use Rattle.std.proofs.Common.{◌∙◌, ap, sym, nat_eq, get_or, []}
use Rattle.indexmap.specs.IndexMap.{get}
use Rattle.p11_overlay.specs.Kept.Prepared.{DriveState}
use Rattle.p11_overlay.specs.Kept.Sectors.{base_sector, over_base}
use Rattle.p11_overlay.proofs.Keeping.{length-base_sector, whole_kept}
use Rattle.p11_overlay.proofs.Over.{sector_over}
use Rattle.p11_overlay.proofs.drive.Drive.sector.Goals as goal

pub returns-in-Some-clause-bytes : goal.returns-in-Some-clause-bytes
returns-in-Some-clause-bytes g c =
    let v = ap (λ (d : DriveState). d.contents.sectors) c.self.view_is in
    let at = sector_over c.self.inside.base.items (λ q. get nat_eq c.self.inside.kept q) c.args.n c.requires in
    c.as_slice.ensures ∙ ap (over_base c.self.inside.base.items c.args.n) c.in-Some.ensures.value ∙ sym at ∙ ap (λ xs. get_or xs c.args.n []) v

pub returns-in-Some-clause-len : goal.returns-in-Some-clause-len
returns-in-Some-clause-len g c = rw c.as_slice.ensures (c.self.invariant.whole c.args.n c.in-Some.bytes.now (sym c.in-Some.ensures.value))

pub returns-in-Some-clause-whole : goal.returns-in-Some-clause-whole
returns-in-Some-clause-whole g c = rw (← c.self.view_is) (whole_kept _ _ _ c.self.inside.is_protected _ _ c.self.invariant)

pub returns-in-None-clause-bytes : goal.returns-in-None-clause-bytes
returns-in-None-clause-bytes g c =
    let v = ap (λ (d : DriveState). d.contents.sectors) c.self.view_is in
    let at = sector_over c.self.inside.base.items (λ q. get nat_eq c.self.inside.kept q) c.args.n c.requires in
    c.as_slice-in-None.ensures ∙ c.mounted_sector.ensures ∙ ap (λ base. base_sector base c.args.n) c.deref.ensures.value
    ∙ ap (over_base c.self.inside.base.items c.args.n) c.in-None.ensures.value ∙ sym at ∙ ap (λ xs. get_or xs c.args.n []) v

pub returns-in-None-clause-len : goal.returns-in-None-clause-len
returns-in-None-clause-len g c =
    rw (c.as_slice-in-None.ensures, c.mounted_sector.ensures, c.deref.ensures.value) (length-base_sector c.self.inside.base.items c.args.n c.self.invariant.bytes)

pub returns-in-None-clause-whole : goal.returns-in-None-clause-whole
returns-in-None-clause-whole g c = rw (← c.self.view_is) (whole_kept _ _ _ c.self.inside.is_protected _ _ c.self.invariant)
