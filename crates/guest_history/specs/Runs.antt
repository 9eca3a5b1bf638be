-- Steps of one kind in a row, up to the first reason to stop.
use Rattle.std.specs.Prelude.{◌≡◌, ℕ, ◌+◌, ◌≤◌, Bool, true, false, Some}
use Rattle.flat_machine.specs.Process.{Process}
use Rattle.debug_core.specs.Debugging.{opening_moment, turn_left, DebuggerValue}
use Rattle.debug_core.specs.Stops.{last_hart, Moment, Stops}
use Rattle.run_paths.specs.declared.path.Whose.{Whose}
use Rattle.run_paths.specs.declared.path.Whose.TheVariants.{ByTurns, Hart}
use Rattle.run_paths.specs.Paths.{hart_of}
use Rattle.guest_history.specs.declared.history.History.{History}
use Rattle.guest_history.specs.declared.moving.Run.{Run}
use Rattle.guest_history.specs.Going.{lacks, shows}

-- whether one hart takes all steps
abbrev pub is_lone : Whose → Bool
is_lone ByTurns = false
is_lone (Hart hart) = true

-- a debugger's process before the first of such steps
abbrev pub first_of : Whose → DebuggerValue Process → Moment
first_of whose debugger = opening_moment (is_lone whose) debugger.target (hart_of whose debugger.turn)

-- whose turn it is after so many such steps
abbrev pub TurnIs : Whose → ℕ → DebuggerValue Process → DebuggerValue Process → Type 0
TurnIs ByTurns steps old new = Unit {0}
TurnIs (Hart hart) steps old new = new.turn ≡ turn_left steps hart old.turn new.target

-- a debugger took such steps to the first reason to stop, or as many as were allowed
pub record Ran (whose : Whose) (limit : ℕ) (old : DebuggerValue Process) (run : Run) (new : DebuggerValue Process) : Type 0 where
  pub within : run.steps ≤ limit
  pub stops : Stops shows lacks old.target old.points limit run.why run.steps (first_of whose old) (hart_of whose new.turn) new.target
  pub last : whose ≡ ByTurns → last_hart run.steps (first_of whose old) ≡ Some run.last
  pub turn : TurnIs whose run.steps old new
  pub points : new.points ≡ old.points

-- the same of a debugger that knows its steps
pub record Runs (whose : Whose) (limit : ℕ) (old : History) (run : Run) (new : History) : Type 0 where
  pub ran : Ran whose limit old.debugger run new.debugger
  pub done : new.done ≡ old.done + run.steps
