-- A run that goes on, and the schedule that is kept of it.
use Rattle.std.specs.Prelude.{◌≡◌, ◌≤◌, ℕ, List, ◌++◌, length, Option, None, Some, IsSome, false, true}
use Rattle.flat_machine.specs.Process.{Process, flat_run, is_live}
use Rattle.flat_machine.specs.Schedule.{fits, written_out}
use Rattle.flat_machine.specs.declared.end.End.{End}
use Rattle.flat_machine.specs.declared.end.End.TheVariants.{Killed}
use Rattle.flat_machine.specs.declared.end.KillCause.{KillCause}
use Rattle.flat_machine.specs.declared.end.KillCause.TheVariants.{NoSwap, LoadFailed, Damaged, ScheduleFull, NoMemory, Limit}
use Rattle.flat_machine.specs.declared.schedule.Turn.{Turn}
use Rattle.run_records.specs.Records.{RecordValue}

-- a process took so many steps, which were added to a schedule
pub record GoesOn (kept : List Turn) (before : Process) (now : List Turn) (after : Process) (steps : ℕ) : Type 0 where
  pub harts : List ℕ
  pub added : written_out now ≡ written_out kept ++ harts
  pub ran : flat_run harts before ≡ Some after
  pub many : length harts ≡ steps

-- why a run stops that could go on: as many steps were done as are allowed, or its schedule takes no step more of some live hart
abbrev pub StopsFor : ℕ → ℕ → List Turn → Process → KillCause → Type 0
StopsFor limit steps turns process Limit = steps ≡ limit
StopsFor limit steps turns process ScheduleFull = (hart : ℕ) × ((is_live hart process ≡ true) × (fits turns hart ≡ false))
StopsFor limit steps turns process NoSwap = ⊥
StopsFor limit steps turns process LoadFailed = ⊥
StopsFor limit steps turns process Damaged = ⊥
StopsFor limit steps turns process NoMemory = ⊥

-- a run came to the ending of its process; or it stopped for such a reason
abbrev pub EndsFor : Option End → End → (KillCause → Type 0) → Type 0
EndsFor (Some own) end Stops = end ≡ own
EndsFor None end Stops = (cause : KillCause) × ((end ≡ Killed cause) × Stops cause)

-- a record is of no more steps than are allowed, and of fewer only where the process has ended or the schedule is full
pub record EndsWithin (limit : ℕ) (told : RecordValue) (after : Process) : Type 0 where
  pub within : told.closing.steps ≤ limit
  pub ends : EndsFor after.ending told.closing.end (StopsFor limit told.closing.steps told.turns after)

-- some run of a process ends it by so many steps
pub record EndsAfter (steps : ℕ) (before : Process) : Type 0 where
  pub harts : List ℕ
  pub after : Process
  pub many : length harts ≡ steps
  pub ran : flat_run harts before ≡ Some after
  pub ended : IsSome after.ending
