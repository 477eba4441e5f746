use Rattle.p11_lines.proofs.Pieces.{put_first, Appends-kept-all, AppendsFront-trans, OnErr-map, OnOk-map}
use Rattle.p11_lines.proofs.output.put_answer.Goals as goal

pub returns-clause-ok : goal.returns-clause-ok
returns-clause-ok g c = OnOk-map c.empty.result (Appends-kept-all (put_first c.new-table.ensures c.in_ok-put_text.ensures)) c.empty.ensures.ok

pub returns-clause-err : goal.returns-clause-err
returns-clause-err g c = OnErr-map c.empty.result (AppendsFront-trans (put_first c.new-table.ensures c.in_ok-put_text.ensures)) c.empty.ensures.err
