-- The ledger of the machine's frames is the one that the blank names.
use Rattle.driver_acceptance.proofs.served.a_page_is_absent_where_a_run_gives_it_up.Given as goal

abbrev pub ghosts-serves : goal.ghosts-serves
ghosts-serves g a = record { name = a.blank.name; parts = a.blank.parts }
