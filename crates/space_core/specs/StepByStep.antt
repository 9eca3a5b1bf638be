-- A hart's instructions one at a time: each is a slice of one, and is recorded.
use Rattle.std.specs.Prelude.{◌≡◌, ◌≢◌, ℕ, zero, suc, ◌+◌, ◌++◌, ◌<◌, ◌≤◌, Option, Some, None, List, All, replicate}
use Rattle.rv_exec.specs.Outcomes.{Used}
use Rattle.flat_machine.specs.Process.{flat_run}
use Rattle.flat_machine.specs.Schedule.{written_out, room}
use Rattle.paged_memory.specs.access.HartMemory.{MarksSince, WasShown}
use Rattle.paged_memory.specs.access.Missing.{TakesSince}
use Rattle.space_core.specs.declared.progress.SliceStop.{SliceStop}
use Rattle.space_core.specs.declared.progress.SliceStop.TheVariants.{Budget}
use Rattle.paged_memory.specs.Coheres.{Coheres}
use Rattle.space_core.specs.FromBelow.{AtAbsent, MissesNext}
use Rattle.space_core.specs.Next.{next_pages, next_stores, answered, begun}
use Rattle.space_core.specs.Slices.{EachStep, BoundsEach, StopsRecorded}
use Rattle.space_core.specs.Slicing.{shown_process, KeepsSpace}
use Rattle.space_core.specs.StandsFor.{SpaceValue, StandsFor}
use Rattle.paged_memory.specs.access.Using.{cache_in, HasIn, LacksIn, MarkedIn}

module _ {S : Type 0} (held : S → List ℕ) (honest : Type 0) (hart : ℕ) where
  -- a slice of one instruction: whether it ran, why it stops, and what is left
  pub record SlicesOne (ran : ℕ) (why : SliceStop) (old new : SpaceValue S) : Type 0 where
    pub ran_is : flat_run (replicate ran hart) (shown_process held old) ≡ Some (shown_process held new)
    pub recorded : written_out new.schedule ≡ written_out old.schedule ++ replicate ran hart
    pub left : room new.schedule hart + ran ≡ room old.schedule hart
    pub within : ran ≤ 1
    pub stops : StopsRecorded (LacksIn old.memory) hart 1 (room old.schedule hart) (shown_process held old) why ran (shown_process held new)
    pub pages : EachStep (λ at. Used (HasIn old.memory hart) (MarksSince new.memory (cache_in old.memory hart)) (next_pages hart at)) hart (answered why ran) (shown_process held old)
    pub bound : BoundsEach (MarkedIn old.memory) (MarkedIn new.memory) hart (begun why ran) (shown_process held old)
    -- where the hart goes on, its cache showed each page that an answered instruction used
    pub shown : why ≡ Budget → EachStep (λ at. All (WasShown (cache_in old.memory hart) (cache_in new.memory hart)) (next_pages hart at)) hart (answered why ran) (shown_process held old)
    -- what an instruction that was answered stored to takes stores, and has D where no translation served that the hart had; and a page that was absent was not in the hart's cache when its access
    -- came, whatever the cache held when the instruction began
    pub takes : EachStep (λ at. All (TakesSince new.memory (cache_in old.memory hart)) (next_stores hart at)) hart (answered why ran) (shown_process held old)
    pub missed : AtAbsent why (MissesNext hart (shown_process held old) old.memory new.memory)
    pub kept : KeepsSpace hart why old new
    pub stands : honest → StandsFor held new
    pub coheres : Coheres held honest new.memory

  -- so many slices of one instruction each, that all ran and went on
  unfoldable pub StepsOn : ℕ → SpaceValue S → SpaceValue S → Type 0
  StepsOn zero old new = new ≡ old
  StepsOn (suc n) old new = (between : SpaceValue S) × (StepsOn n old between × SlicesOne 1 Budget between new)

  -- the last of them may be one that stops
  abbrev pub StepsLast : Option (ℕ × SliceStop) → SpaceValue S → SpaceValue S → Type 0
  StepsLast None old new = new ≡ old
  StepsLast (Some last) old new = SlicesOne last.0 last.1 old new

  pub record StepsEach (count : ℕ) (last : Option (ℕ × SliceStop)) (old new : SpaceValue S) : Type 0 where
    pub between : SpaceValue S
    pub on : StepsOn count old between
    pub at_last : StepsLast last between new

  -- how a slice of at most so many instructions ends: all that were allowed went on, or one stops after those that did
  abbrev pub SliceEnds : ℕ → ℕ → Option (ℕ × SliceStop) → ℕ → SliceStop → Type 0
  SliceEnds budget on None ran why = (on ≡ budget) × (ran ≡ on) × (why ≡ Budget)
  SliceEnds budget on (Some last) ran why = (on < budget) × (ran ≡ on + last.0) × (why ≡ last.1) × (why ≢ Budget)

  -- a slice is its instructions' slices, one after another
  pub record SlicesEach (budget ran : ℕ) (why : SliceStop) (old new : SpaceValue S) : Type 0 where
    pub on : ℕ
    pub last : Option (ℕ × SliceStop)
    pub each : StepsEach on last old new
    pub ends : SliceEnds budget on last ran why
