use Rattle.p11_handles.proofs.held_machine.HeldMachine.play.Goals as goal

pub returns : goal.returns
returns c = rw (← c.self.view_is) (rw c.replace-files.ensures.value at (c.play_lines-played.ensures.lines c.self.inside.answer.items))
