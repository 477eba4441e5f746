use Rattle.p11_handles.proofs.session.play_new.Given as goal

abbrev pub ghosts-play_files : goal.ghosts-play_files
ghosts-play_files a = record { name = a.blank.name; parts = a.blank.parts }
