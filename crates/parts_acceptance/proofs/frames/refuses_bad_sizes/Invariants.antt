use Rattle.parts_acceptance.proofs.frames.refuses_bad_sizes.Given as goal

abbrev pub ghosts-refused : goal.ghosts-refused
ghosts-refused g a = record { name = a.blank.name; parts = a.blank.parts }
