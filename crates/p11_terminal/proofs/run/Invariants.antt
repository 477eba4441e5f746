use Rattle.p11_terminal.proofs.run.Given as goal

abbrev pub ghosts-hold : goal.ghosts-hold
ghosts-hold a = record { name = a.blank.name; parts = a.blank.parts }
