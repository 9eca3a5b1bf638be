use Rattle.machine_acceptance.proofs.failing.a_page_is_saved_at_the_second_try.Given as goal

abbrev pub ghosts-is_saved_again : goal.ghosts-is_saved_again
ghosts-is_saved_again g a = record { name = a.blank.name; parts = a.blank.parts }
