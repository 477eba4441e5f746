use Rattle.p11_files.proofs.FillLemmas.{ends_in_writes, ends_at_sync, ends_at_rename, ends_named}
use Rattle.p11_files.proofs.filling.write_and_name.Goals as goal

pub returns-in-Err-clause-err : goal.returns-in-Err-clause-err
returns-in-Err-clause-err g c =
    ends_in_writes (g.D.Disk.state c.args.disk.now) (g.D.Disk.state c.write_whole.new.disk) c.args.new.now c.args.path.now c.args.bytes.now c.in-Err.fault c.in-Err.ensures.err

pub returns-in-Err-sync-clause-err : goal.returns-in-Err-sync-clause-err
returns-in-Err-sync-clause-err g c =
    ends_at_sync (g.D.Disk.state c.args.disk.now) (g.D.Disk.state c.write_whole.new.disk) (g.D.Disk.state c.sync.new.self) c.args.new.now c.args.path.now c.args.bytes.now c.in-Err-sync.fault c.in_default.ensures.ok c.in-Err-sync.ensures

pub returns-in-Err-rename-clause-err : goal.returns-in-Err-rename-clause-err
returns-in-Err-rename-clause-err g c =
    ends_at_rename (g.D.Disk.state c.args.disk.now) (g.D.Disk.state c.write_whole.new.disk) (g.D.Disk.state c.sync.new.self) (g.D.Disk.state c.rename.new.self) c.args.new.now c.args.path.now c.args.bytes.now c.in-Err-rename.fault c.in_default.ensures.ok c.in_default-sync.ensures c.in-Err-rename.ensures

pub returns-clause-ok : goal.returns-clause-ok
returns-clause-ok g c =
    ends_named (g.D.Disk.state c.args.disk.now) (g.D.Disk.state c.write_whole.new.disk) (g.D.Disk.state c.sync.new.self) (g.D.Disk.state c.rename.new.self) c.args.new.now c.args.path.now c.args.bytes.now c.in_default.ensures.ok c.in_default-sync.ensures c.in_default-rename.ensures
