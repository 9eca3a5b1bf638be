use Rattle.machine_acceptance.proofs.wandering.processes_on_four_frames_do_what_they_do_flat.Given as goal

abbrev pub ghosts-wanders_from : goal.ghosts-wanders_from
ghosts-wanders_from g a = record { name = a.blank.name; parts = a.blank.parts }
