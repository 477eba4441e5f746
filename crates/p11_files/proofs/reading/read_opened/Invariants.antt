use Rattle.p11_files.proofs.ReadLemmas.{Gave}
use Rattle.p11_files.proofs.reading.read_opened.Given as goal

abbrev pub invariant-loop : goal.invariant-loop
invariant-loop g l = Gave (g.D.Disk.state l.fn.disk) (g.D.Disk.state l.disk) l.bytes.items
