-- The ledger of the machine's frames is the one that the blank names.
use Rattle.machine_acceptance.proofs.cleaning.shown_after.Given as goal

abbrev pub ghosts-shown_in : goal.ghosts-shown_in
ghosts-shown_in g a = record { name = a.blank.name; parts = a.blank.parts }
