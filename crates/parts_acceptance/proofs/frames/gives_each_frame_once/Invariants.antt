use Rattle.parts_acceptance.proofs.frames.gives_each_frame_once.Given as goal

abbrev pub ghosts-take_all : goal.ghosts-take_all
ghosts-take_all g a = record { name = a.blank.name; parts = a.blank.parts }
