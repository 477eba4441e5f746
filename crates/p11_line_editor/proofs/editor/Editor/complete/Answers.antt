use Rattle.std.proofs.Common.{sym, ◌∙◌}
use Rattle.p11_line_editor.proofs.Fronts.{completed_lent}
use Rattle.p11_line_editor.proofs.editor.Editor.complete.Goals as goal

pub returns : goal.returns
returns c =
    completed_lent c.args.candidates.now _ c.common-shared.result.now c.args.self.now (sym c.if-is_empty.false ∙ c.is_empty.ensures) c.common-shared.ensures
    ∙ c.complete_by.ensures
