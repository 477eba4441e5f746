use Rattle.p11_handles.proofs.held_machine.HeldMachine.play.Given as goal

abbrev pub ghosts-play_lines : goal.ghosts-play_lines
ghosts-play_lines a = record { name = a.blank.name; parts = a.blank.parts }
