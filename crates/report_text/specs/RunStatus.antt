-- The exit status of the program after a run of several processes.
use Rattle.std.specs.Prelude.{ℕ, max, Option, List, [], ◌∷◌}
use Rattle.flat_machine.specs.declared.end.End.{End}
use Rattle.process_text.specs.ExitStatus.{exit_status, ending_of}

-- from a status that was found already: the highest of theirs, so 3 where one was killed, else 1
-- where one did not exit with 0, else 0
abbrev pub worst_status : ℕ → List (Option End) → ℕ
worst_status status [] = status
worst_status status (end ∷ ends) = worst_status (max status (exit_status (ending_of end))) ends
