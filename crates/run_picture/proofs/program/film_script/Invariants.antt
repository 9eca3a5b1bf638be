-- The ledger of the machine's frames is the one that the blank names.
use Rattle.run_picture.proofs.program.film_script.Given as goal

abbrev pub ghosts-film_with : goal.ghosts-film_with
ghosts-film_with a = record { name = a.blank.name; parts = a.blank.parts }
