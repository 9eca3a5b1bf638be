use Rattle.threads_acceptance.proofs.admissions.a_damaged_page_is_in_no_list.Given as goal

abbrev pub ghosts-lists_no_damaged_page : goal.ghosts-lists_no_damaged_page
ghosts-lists_no_damaged_page g a = record { name = a.blank.name; parts = a.blank.parts }
