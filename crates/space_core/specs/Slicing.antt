-- A slice of a process on paged memory: what it leaves beside what ran.
use Rattle.std.specs.Prelude.{◌≡◌, ◌≢◌, ℕ, ◌^◌, ◌<◌, true, List, length}
use Rattle.paged_memory.specs.Paged.{PagedValue, memory_of}
use Rattle.flat_machine.specs.Process.{Process}
use Rattle.space_core.specs.declared.progress.SliceStop.{SliceStop}
use Rattle.space_core.specs.declared.progress.SliceStop.TheVariants.{Budget, Absent, Yield, HartDone, Ended, NoHart, ScheduleFull, NoMemory}
use Rattle.space_core.specs.RunningValue.{with_memory}
use Rattle.space_core.specs.StandsFor.{SpaceValue}
use Rattle.paged_memory.specs.cleaning.Copies.{KeepsCopies}
use Rattle.paged_memory.specs.moves.Moving.{SameTablesIn}
use Rattle.paged_memory.specs.access.Using.{GoesOnIn, HasIn, HoldsNone, KeepsIn, SameCache, holds_in}
use Rattle.paged_memory.specs.Whole.{is_used_in, is_dirty_in, harts_in}

-- the flat process with what its pages show, where slots hold this
abbrev pub shown_process : {S : Type 0} → (S → List ℕ) → SpaceValue S → Process
shown_process held space = with_memory space.running (memory_of held space.memory)

-- the caches of all harts but one are the same
abbrev pub OthersStay : {S : Type 0} → ℕ → PagedValue S → PagedValue S → Type 0
OthersStay hart old new = (h : ℕ) → h ≢ hart → SameCache h old new

-- a hart that goes on has translations only of pages that it had or that are resident; no further one is to be dropped; one went only
-- to make room or for a newer one of its page, which carries the page's D
pub record GoesOnWith {S : Type 0} (hart : ℕ) (old new : PagedValue S) : Type 0 where
  pub held : (page : ℕ) → holds_in new hart page ≡ true → HasIn old hart page
  pub goes : GoesOnIn hart old new

-- what is left of the caches where a hart stops so: nothing of any where the process ended, nothing of the hart's own where
-- it does not go on, and all else
abbrev pub SettlesCaches : {S : Type 0} → SliceStop → ℕ → PagedValue S → PagedValue S → Type 0
SettlesCaches Budget hart old new = (h : ℕ) → SameCache h old new
SettlesCaches Ended hart old new = (h : ℕ) → HoldsNone h new
SettlesCaches (Absent page) hart old new = OthersStay hart old new × HoldsNone hart new
SettlesCaches Yield hart old new = OthersStay hart old new × HoldsNone hart new
SettlesCaches HartDone hart old new = OthersStay hart old new × HoldsNone hart new
SettlesCaches NoHart hart old new = OthersStay hart old new × HoldsNone hart new
SettlesCaches ScheduleFull hart old new = OthersStay hart old new × HoldsNone hart new
SettlesCaches NoMemory hart old new = OthersStay hart old new × HoldsNone hart new

-- the same of a whole slice: the hart's own translations may be others where it goes on
abbrev pub LeavesCaches : {S : Type 0} → SliceStop → ℕ → PagedValue S → PagedValue S → Type 0
LeavesCaches Budget hart old new = OthersStay hart old new × GoesOnWith hart old new
LeavesCaches Ended hart old new = SettlesCaches Ended hart old new
LeavesCaches (Absent page) hart old new = SettlesCaches (Absent page) hart old new
LeavesCaches Yield hart old new = SettlesCaches Yield hart old new
LeavesCaches HartDone hart old new = SettlesCaches HartDone hart old new
LeavesCaches NoHart hart old new = SettlesCaches NoHart hart old new
LeavesCaches ScheduleFull hart old new = SettlesCaches ScheduleFull hart old new
LeavesCaches NoMemory hart old new = SettlesCaches NoMemory hart old new

-- what a slice keeps: the image and the input, and whether pages were given back; the pages, except the bytes in their frames and pages
-- of zeros that were mapped; which pages have a table; no page's A or D is cleared; a valid copy that is out stays valid, unless its
-- page's D reports a store; and each hart has its cache
pub record KeepsSpace {S : Type 0} (hart : ℕ) (stop : SliceStop) (old new : SpaceValue S) : Type 0 where
  pub image : new.image ≡ old.image
  pub input : new.input ≡ old.input
  pub purged : new.purged ≡ old.purged
  pub process : new.memory.process ≡ old.memory.process
  pub pages : KeepsIn old.memory new.memory
  pub tabled : SameTablesIn old.memory new.memory
  pub used : (page : ℕ) → page < 2 ^ 20 → is_used_in old.memory page ≡ true → is_used_in new.memory page ≡ true
  pub changed : (page : ℕ) → page < 2 ^ 20 → is_dirty_in old.memory page ≡ true → is_dirty_in new.memory page ≡ true
  pub copies : KeepsCopies old.memory new.memory
  pub harts : harts_in new.memory ≡ length new.running.harts
  pub caches : LeavesCaches stop hart old.memory new.memory
