use Rattle.driver_acceptance.proofs.fuses.a_process_does_what_it_does_flat.Given as goal

abbrev pub ghosts-ends_over_fuses : goal.ghosts-ends_over_fuses
ghosts-ends_over_fuses g a = record { name = a.blank.name; parts = a.blank.parts }
