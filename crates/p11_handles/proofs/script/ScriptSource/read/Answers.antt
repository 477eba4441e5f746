use Rattle.std.proofs.Common.{◌≡◌, ◌∙◌, arith, ℕ, List, Some, length, sym, ap, subst}
use Rattle.std.specs.Prelude.{min}
use Rattle.std.proofs.lemmas.Grind.{common_steps}
use Rattle.p11_panel.specs.declared.read_call.ReadCall.{ReadCall}
use Rattle.p11_handles.specs.ScriptReads.{given_by, Filled}
use Rattle.p11_handles.proofs.ReadLemmas.{filled_push}
use Rattle.p11_handles.proofs.script.ScriptSource.read.Goals as goal

pub invariant_of-self : goal.invariant_of-self
invariant_of-self c =
    let given = ap given_by c.into_buffer.ensures in
    let room = ap (λ (r : ReadCall). r.room) c.into_buffer.ensures in
    let count : c.min-count.result ≡ min c.into_buffer.result.room (length c.args.self.now.left.now) = grind (arith, common_steps, room, c.min-count.ensures) in
    record {
      filled = subst (λ (l : List ReadCall). Filled l (length c.split_at.result.1.now)) (sym c.then-self.ensures)
          (filled_push c.args.self.now.reads.made c.into_buffer.result (length c.args.self.now.left.now) (length c.split_at.result.1.now) c.args.self.now.filled
          (grind (arith, common_steps, given, c.min-count.ensures, c.split_at.ensures.back_len, c.split_at.ensures.front_len))
          (ap (λ (r : ReadCall). r.gave) c.into_buffer.ensures ∙ ap (λ (k : ℕ). Some k) count));
    }
