use Rattle.p11_files.specs.Disks.{reason_of}
use Rattle.p11_files.proofs.FillLemmas.{ends_at_settle, ends_filled, ends_removed}
use Rattle.p11_files.proofs.filling.fill.Goals as goal

pub returns-in-Err-clause-err : goal.returns-in-Err-clause-err
returns-in-Err-clause-err g c =
    ends_removed (g.D.Disk.state c.args.disk.now) (g.D.Disk.state c.write_and_name.new.disk) (g.D.Disk.state c.remove.new.self) c.args.new.now c.args.path.now c.args.bytes.now c.in-Err.fault (reason_of c.remove.result) c.in-Err.ensures.err c.remove.ensures

pub returns-in-Err-settle-clause-err : goal.returns-in-Err-settle-clause-err
returns-in-Err-settle-clause-err g c =
    ends_at_settle (g.D.Disk.state c.args.disk.now) (g.D.Disk.state c.write_and_name.new.disk) (g.D.Disk.state c.settle.new.self) c.args.new.now c.args.path.now c.args.bytes.now c.in-Err-settle.fault c.in_default.ensures.ok c.in-Err-settle.ensures

pub returns-clause-ok : goal.returns-clause-ok
returns-clause-ok g c =
    ends_filled (g.D.Disk.state c.args.disk.now) (g.D.Disk.state c.write_and_name.new.disk) (g.D.Disk.state c.settle.new.self) c.args.new.now c.args.path.now c.args.bytes.now c.in_default.ensures.ok c.in_default-settle.ensures
