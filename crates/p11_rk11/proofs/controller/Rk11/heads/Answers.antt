use Rattle.std.proofs.Common.{sym, ap, ◌∙◌, subst, ◌≡◌, is_some, true}
use Rattle.p11_rk11.specs.Calls.Heads.{heads_at}
use Rattle.p11_rk11.specs.State.{drive_of}
use Rattle.p11_rk11.specs.Kept.View.{Rk11View}
use Rattle.p11_rk11.proofs.Parts.{drive_seen, no_heads}
use Rattle.p11_rk11.proofs.controller.Rk11.heads.Goals as goal

pub unreachable-requires : goal.unreachable-requires
unreachable-requires g c =
    let P : Rk11View → Type 0 = λ v. is_some (drive_of v.state c.args.n) ≡ true in
    no_heads _
    (ap (λ drive. is_some drive) (sym (drive_seen _ _ _ _ _ c.requires.exists c.self.invariant.0 c.at.ensures)) ∙ subst P (sym c.self.view_is) c.requires.mounted)
    (sym c.heads.ensures ∙ c.in-None.is)

pub returns : goal.returns
returns g c =
    rw (← c.self.view_is)
    (sym c.in-Some.is ∙ c.heads.ensures ∙ ap heads_at (sym (drive_seen _ _ _ _ _ c.requires.exists c.self.invariant.0 c.at.ensures)))
