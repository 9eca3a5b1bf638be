use Rattle.machine_acceptance.proofs.failing.a_page_that_is_not_loaded_is_not_listed.Given as goal

abbrev pub ghosts-is_loaded_again : goal.ghosts-is_loaded_again
ghosts-is_loaded_again g a = record { name = a.blank.name; parts = a.blank.parts }
