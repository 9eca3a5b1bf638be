-- What a run by turns comes to, up to a limit.
use Rattle.std.specs.Prelude.{◌≡◌, ℕ, ◌≤◌, ◌⊎◌, List, Option, Some, None}
use Rattle.std.specs.Io.KnownBytes.{Appends}
use Rattle.flat_machine.specs.Process.{Process}
use Rattle.flat_machine.specs.ByTurns.{by_turns, first_turn}
use Rattle.flat_machine.specs.Refusals.{WantsMemory}
use Rattle.flat_machine.specs.declared.end.End.{End}
use Rattle.flat_machine.specs.declared.end.End.TheVariants.{Killed}
use Rattle.flat_machine.specs.declared.end.KillCause.TheVariants.{Limit, NoMemory}

-- why it ended after so many steps: the process's own ending, or as many steps done as are allowed, or not enough memory
-- for its next step
pub data EndsSo (limit turn : ℕ) (process : Process) (steps : ℕ) : End → Type 0 where
  Itself : (end : End) → process.ending ≡ Some end → EndsSo limit turn process steps end
  Limited : process.ending ≡ None → steps ≡ limit → EndsSo limit turn process steps (Killed Limit)
  Wanting : process.ending ≡ None → WantsMemory turn process → EndsSo limit turn process steps (Killed NoMemory)

-- A process does so many steps by turns, from the first turn on, and is then this one. Its whole output was written after what was there.
pub record TellsTurns (limit : ℕ) (begun process : Process) (old new : Option (List ℕ)) (end : End) (steps : ℕ) : Type 0 where
  pub turn : ℕ
  pub ran : by_turns steps (first_turn begun) begun ≡ Some (turn, process)
  pub within : steps ≤ limit
  pub ended : EndsSo limit turn process steps end
  pub written : Appends old new process.environment.output
