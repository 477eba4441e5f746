use Rattle.p11_cpu.specs.References.{read_at}
use Rattle.p11_cpu.proofs.Windowed.{read_word}
use Rattle.p11_cpu.proofs.hardware.Hardware.read_next.Goals as goal

pub returns-in-Some : goal.returns-in-Some
unfolding read_at
returns-in-Some g c = read_word _ _ _ c.args.turn _ _ c.in-Some.ensures.word (c.read_memory.ensures.read c.args.turn)
