-- The ledger of the machine's frames is the one that the blank names.
use Rattle.driver_acceptance.proofs.page_ins.page_ins.Given as goal

abbrev pub ghosts-page_ins_with : goal.ghosts-page_ins_with
ghosts-page_ins_with g a = record { name = a.blank.name; parts = a.blank.parts }
