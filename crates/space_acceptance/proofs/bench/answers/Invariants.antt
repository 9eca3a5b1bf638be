-- The ledger of the process's frames is the one that the blank names.
use Rattle.space_acceptance.proofs.bench.answers.Given as goal

abbrev pub ghosts-answers_in : goal.ghosts-answers_in
ghosts-answers_in g a = record { name = a.blank.name; parts = a.blank.parts }
