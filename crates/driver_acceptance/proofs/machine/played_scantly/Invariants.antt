-- The ledger of the machine's frames is the one that the blank names.
use Rattle.driver_acceptance.proofs.machine.played_scantly.Given as goal

abbrev pub ghosts-played_with : goal.ghosts-played_with
ghosts-played_with g a = record { name = a.blank.name; parts = a.blank.parts }
