use Rattle.parts_acceptance.proofs.stored_pages.a_changed_page_goes_and_comes.Given as goal

abbrev pub ghosts-goes_and_comes : goal.ghosts-goes_and_comes
ghosts-goes_and_comes g a = record { name = a.blank.name; parts = a.blank.parts }
