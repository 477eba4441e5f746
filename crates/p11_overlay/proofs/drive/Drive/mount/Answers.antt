use Rattle.std.proofs.Common.{◌∙◌, ap, nat_eq}
use Rattle.std.specs.List.{concat}
use Rattle.std.specs.Map.{lookup}
use Rattle.p11_overlay.specs.Kept.Sectors.{base_of}
use Rattle.p11_overlay.proofs.Keeping.{All-base_of, contents_mounted, kept_mounted}
use Rattle.p11_overlay.proofs.Over.{nothing_over}
use Rattle.p11_overlay.proofs.Sectors.{concat-sectors_of}
use Rattle.p11_overlay.proofs.drive.Drive.mount.Goals as goal

pub invariant_of-result : goal.invariant_of-result
invariant_of-result g c =
    rw (c.new-2.ensures.items, c.in_ok-base.ensures) (kept_mounted (base_of c.args.image.now) _ _ _ (All-base_of c.args.image.now c.requires) (λ q. ap (lookup (nat_eq q)) c.new.ensures.empty) c.new.ensures.len)

pub returns-clause-contents : goal.returns-clause-contents
returns-clause-contents g c =
    rw c.in_ok-base.ensures
    (contents_mounted (base_of c.args.image.now) (λ q. lookup (nat_eq q) c.new.result.entries) c.args.protected _ c.args.image.now
    (nothing_over c.args.image.now (λ q. lookup (nat_eq q) c.new.result.entries) (λ q. ap (lookup (nat_eq q)) c.new.ensures.empty) c.requires) c.new-2.ensures.items)

pub returns-clause-bytes : goal.returns-clause-bytes
returns-clause-bytes g c =
    rw c.in_ok-base.ensures
    (ap concat (nothing_over c.args.image.now (λ q. lookup (nat_eq q) c.new.result.entries) (λ q. ap (lookup (nat_eq q)) c.new.ensures.empty) c.requires)
    ∙ concat-sectors_of c.args.image.now c.requires)
