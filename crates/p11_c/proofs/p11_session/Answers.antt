use Rattle.std.proofs.Common.{◌∙◌, inl, inr, refl, to_z-of_z, w32}
use Rattle.p11_handles.specs.Calls.{lent}
use Rattle.p11_handles.proofs.CallLemmas.{hands_of}
use Rattle.p11_c.proofs.p11_session.Goals as goal

pub returns-in-Ok : goal.returns-in-Ok
returns-in-Ok c = (
  c.hand_out.result,
  to_z-of_z {w = w32} {z = c.number.result} (record { sfits = c.number.type_inv }) ∙ c.number.ensures,
  inl (record {
    text = c.in-Ok.given.text.items;
    files = c.in-Ok.given.files.items;
    session = c.in-Ok.ensures.ok;
    hands = hands_of c.hand_out.result c.as_slice-text.result.now c.in-Ok.given.text.items c.as_slice-left.result.now c.in-Ok.given.files.items
        (lent c.args.answers.now c.args.answers_length.now) (lent c.args.files_out.now c.args.files_length.now) (lent c.hand_out.new.out c.hand_out.new.out_length) (lent c.hand_out.new.list c.hand_out.new.list_length)
        c.as_slice-text.ensures.value c.as_slice-left.ensures.value c.hand_out.ensures;
  }),
)

pub returns-in-Err : goal.returns-in-Err
returns-in-Err c = (c.in-Err.status, to_z-of_z {w = w32} {z = c.number-in-Err.result} (record { sfits = c.number-in-Err.type_inv }) ∙ c.number-in-Err.ensures, inr (record { refuses = c.in-Err.ensures.err; out_is = refl; list_is = refl }))
