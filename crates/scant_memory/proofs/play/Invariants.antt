-- The ledger of a space's frames is the one that the blank names.
use Rattle.scant_memory.proofs.play.Given as goal

abbrev pub ghosts-keeps_a_page : goal.ghosts-keeps_a_page
ghosts-keeps_a_page a = record { name = a.blank.name; parts = a.blank.parts }

abbrev pub ghosts-writes_and_breaks : goal.ghosts-writes_and_breaks
ghosts-writes_and_breaks a = record { name = a.blank.name; parts = a.blank.parts }
