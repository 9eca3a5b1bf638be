use Rattle.replacement_acceptance.proofs.pager.a_pager_admits_as_many_pages_as_frames.Given as goal

abbrev pub ghosts-admits_as_many_as_frames : goal.ghosts-admits_as_many_as_frames
ghosts-admits_as_many_as_frames g a = record { name = a.blank.name; parts = a.blank.parts }
