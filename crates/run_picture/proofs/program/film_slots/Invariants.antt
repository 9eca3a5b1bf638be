-- The ledger of the frames is the one that the blank names.
use Rattle.run_picture.proofs.program.film_slots.Given as goal

abbrev pub ghosts-film_on : goal.ghosts-film_on
ghosts-film_on g a = record { name = a.blank.name; parts = a.blank.parts }
