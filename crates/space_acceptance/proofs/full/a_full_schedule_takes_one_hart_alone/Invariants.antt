use Rattle.space_acceptance.proofs.full.a_full_schedule_takes_one_hart_alone.Given as goal

abbrev pub ghosts-fills_its_schedule : goal.ghosts-fills_its_schedule
ghosts-fills_its_schedule g a = record { name = a.blank.name; parts = a.blank.parts }
