use Rattle.std.proofs.Common.{Some, string_bytes}
use Rattle.p11_files.proofs.ReplaceLemmas.{OnOk-map, IfErr-map, replaced, not_placed}
use Rattle.p11_files.proofs.replacing.replace_below.Goals as goal

pub returns-in-Ok-clause-ok : goal.returns-in-Ok-clause-ok
returns-in-Ok-clause-ok g c =
    OnOk-map c.place.result (replaced (Some c.args.folder.now) c.args.name.now (string_bytes c.in-Ok.spot.path) c.args.bytes.now (g.D.Disk.state c.args.disk.now) (g.D.Disk.state c.find_below.new.disk) (g.D.Disk.state c.place.new.disk) c.in-Ok.ensures.ok.0 c.in-Ok.ensures.made) c.place.ensures.ok

pub returns-in-Ok-clause-err : goal.returns-in-Ok-clause-err
returns-in-Ok-clause-err g c =
    IfErr-map c.place.result (λ fault. not_placed (Some c.args.folder.now) c.args.name.now (string_bytes c.in-Ok.spot.path) c.args.bytes.now fault (g.D.Disk.state c.args.disk.now) (g.D.Disk.state c.find_below.new.disk) (g.D.Disk.state c.place.new.disk) c.in-Ok.ensures.ok.0 c.in-Ok.ensures.made c.in-Ok.ensures.ok.1) c.place.ensures.err
