-- What is written of processes while they run.
use Rattle.std.specs.Prelude.{ℕ, ◌+◌, List, [], ◌∷◌, ◌++◌, codes}
use Rattle.std.specs.Fmt.{decimal}
use Rattle.status_cell.specs.declared.status.Status.{Status}

-- how many instructions the process of a number has completed, and how many bytes it has written
unfoldable pub status_text : ℕ → Status → List ℕ
status_text number status = codes "status " ++ decimal number ++ codes " steps " ++ decimal status.steps ++ codes " output " ++ decimal status.output ++ 10 ∷ []

-- the same of processes, by rising number, from one on
unfoldable pub statuses_text : ℕ → List Status → List ℕ
statuses_text number [] = []
statuses_text number (status ∷ statuses) = status_text number status ++ statuses_text (number + 1) statuses
