use Rattle.parts_acceptance.proofs.stored_pages.a_failed_save_keeps_the_page.Given as goal

abbrev pub ghosts-fails_to_save : goal.ghosts-fails_to_save
ghosts-fails_to_save g a = record { name = a.blank.name; parts = a.blank.parts }
