use Rattle.threads_acceptance.proofs.admissions.an_admission_that_is_kept_is_found.Given as goal

abbrev pub ghosts-finds_what_is_kept : goal.ghosts-finds_what_is_kept
ghosts-finds_what_is_kept g a = record { name = a.blank.name; parts = a.blank.parts }
