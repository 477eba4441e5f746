use Rattle.p11_library_example.proofs.answers.Given as goal

abbrev pub ghosts-answers_counted : goal.ghosts-answers_counted
ghosts-answers_counted a = record { name = a.blank.name; parts = a.blank.parts }
