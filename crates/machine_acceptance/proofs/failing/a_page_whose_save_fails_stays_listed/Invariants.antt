use Rattle.machine_acceptance.proofs.failing.a_page_whose_save_fails_stays_listed.Given as goal

abbrev pub ghosts-stays_where_its_save_fails : goal.ghosts-stays_where_its_save_fails
ghosts-stays_where_its_save_fails g a = record { name = a.blank.name; parts = a.blank.parts }
