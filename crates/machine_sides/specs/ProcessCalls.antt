-- The calls that concern only a process: slices of a hart, one and several in a row, its notices, and an ending by the machine.
use Rattle.std.specs.Prelude.{◌≡◌, ℕ, zero, suc, ◌≤◌, ◌+◌, ◌++◌, Option, Some, None, List, replicate}
use Rattle.std.specs.Option.{option_or}
use Rattle.flat_machine.specs.Process.{flat_run}
use Rattle.flat_machine.specs.Schedule.{written_out, room}
use Rattle.flat_machine.specs.declared.end.KillCause.{KillCause}
use Rattle.flat_machine.specs.declared.end.End.TheVariants.{Killed as KilledBy}
use Rattle.rv_exec.specs.Outcomes.{Used}
use Rattle.paged_memory.specs.Coheres.{Coheres}
use Rattle.paged_memory.specs.access.HartMemory.{MarksSince}
use Rattle.paged_memory.specs.access.Notices.{noticed}
use Rattle.paged_memory.specs.access.Using.{cache_in, HasIn, LacksIn, MarkedIn}
use Rattle.space_core.specs.Caches.{if_killed}
use Rattle.space_core.specs.Next.{next_pages, answered, begun}
use Rattle.space_core.specs.Slices.{EachStep, BoundsEach, StopsRecorded}
use Rattle.space_core.specs.Slicing.{shown_process, KeepsSpace}
use Rattle.space_core.specs.StandsFor.{SpaceValue, StandsFor}
use Rattle.space_core.specs.StepByStep.{SlicesEach}
use Rattle.space_core.specs.declared.progress.SliceStop.{SliceStop}
use Rattle.space_core.specs.declared.progress.SliceStop.TheVariants.{Budget}

module _ {S : Type 0} where
  -- a hart's slice: what ran is the flat run of so many of its instructions, and is recorded; why it stops; what is left; and
  -- the same of each instruction
  pub record Slices (held : S → List ℕ) (honest : Type 0) (hart budget : ℕ) (old new : SpaceValue S) (ran : ℕ) (why : SliceStop) : Type 0 where
    pub ran_is : flat_run (replicate ran hart) (shown_process held old) ≡ Some (shown_process held new)
    pub recorded : written_out new.schedule ≡ written_out old.schedule ++ replicate ran hart
    pub left : room new.schedule hart + ran ≡ room old.schedule hart
    pub within : ran ≤ budget
    pub stops : StopsRecorded (LacksIn old.memory) hart budget (room old.schedule hart) (shown_process held old) why ran (shown_process held new)
    pub pages : EachStep (λ at. Used (HasIn old.memory hart) (MarksSince new.memory (cache_in old.memory hart)) (next_pages hart at)) hart (answered why ran) (shown_process held old)
    pub bound : BoundsEach (MarkedIn old.memory) (MarkedIn new.memory) hart (begun why ran) (shown_process held old)
    pub kept : KeepsSpace hart why old new
    pub stands : honest → StandsFor held new
    pub coheres : Coheres held honest new.memory
    pub each : SlicesEach held honest hart budget ran why old new

  -- a process's hart runs one instruction, or does not
  pub record StepsOnce (held : S → List ℕ) (honest : Type 0) (hart : ℕ) (why : SliceStop) (old new : SpaceValue S) : Type 0 where
    pub ran : ℕ
    pub slice : Slices held honest hart 1 old new ran why

  -- a hart drops its translations that are to be dropped
  abbrev pub TakesNotices : ℕ → SpaceValue S → SpaceValue S → Type 0
  TakesNotices hart old new = new ≡ record old { memory = noticed hart old.memory }

  -- the machine ends a process
  abbrev pub IsKilled : KillCause → SpaceValue S → SpaceValue S → Type 0
  IsKilled cause old new = new ≡ record old {
    running = record old.running { ending = option_or old.running.ending (Some (KilledBy cause)) };
    memory = if_killed old.running.ending old.memory;
  }

module _ {S : Type 0} (held : S → List ℕ) (honest : Type 0) (hart : ℕ) where
  -- so many slices of one instruction each, that all ran and went on
  unfoldable pub SlicesOn : ℕ → SpaceValue S → SpaceValue S → Type 0
  SlicesOn zero old new = new ≡ old
  SlicesOn (suc n) old new = (between : SpaceValue S) × (SlicesOn n old between × Slices held honest hart 1 between new 1 Budget)

  -- one more that stops, if there is one
  abbrev pub SliceEnds : Option SliceStop → SpaceValue S → SpaceValue S → Type 0
  SliceEnds None old new = new ≡ old
  SliceEnds (Some why) old new = (ran : ℕ) × Slices held honest hart 1 old new ran why

  pub record SlicesMany (count : ℕ) (last : Option SliceStop) (old new : SpaceValue S) : Type 0 where
    pub between : SpaceValue S
    pub on : SlicesOn count old between
    pub ends : SliceEnds last between new
