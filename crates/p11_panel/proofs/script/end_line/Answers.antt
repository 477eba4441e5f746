use Rattle.std.proofs.Common.{◌≡◌, ◌∙◌, sym, ap, subst, List, ℕ, None, Some}
use Rattle.std.specs.Option.{option_copied}
use Rattle.p11_panel.specs.Kept.Buffer.{kept}
use Rattle.p11_panel.proofs.BufferLemmas.{kept_is, none_too_long_cut}
use Rattle.p11_panel.proofs.SessionLemmas.{long_line}
use Rattle.p11_panel.specs.Session.{with_store, LineDoes}
use Rattle.p11_lines.specs.LineEnd.{without_cr}
use Rattle.p11_panel.proofs.script.end_line.Goals as goal

pub returns-in-None : goal.returns-in-None
returns-in-None g c piece h =
    let none : None ≡ kept piece = sym (ap option_copied c.in-None.is) ∙ (c.get.ensures ∙ h) in
    long_line _ _ _ (none_too_long_cut piece none)

pub returns-in-Some : goal.returns-in-Some
returns-in-Some g c piece h =
    let some : Some c.in-Some.piece.now ≡ kept piece = sym (ap option_copied c.in-Some.is) ∙ (c.get.ensures ∙ h) in
    let same : c.in-Some.piece.now ≡ piece = kept_is piece c.in-Some.piece.now some in
    subst (λ (line : List ℕ). LineDoes line (with_store c.args.panel.now (g.S.Store.state c.args.store.now)) c.do_line.result (with_store c.do_line.new.panel (g.S.Store.state c.do_line.new.store))) (c.without_return.ensures ∙ ap without_cr same) c.do_line.ensures
