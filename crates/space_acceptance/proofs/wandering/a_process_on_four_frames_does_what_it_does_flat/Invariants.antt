use Rattle.space_acceptance.proofs.wandering.a_process_on_four_frames_does_what_it_does_flat.Given as goal

abbrev pub ghosts-wanders_from : goal.ghosts-wanders_from
ghosts-wanders_from g a = record { name = a.blank.name; parts = a.blank.parts }
