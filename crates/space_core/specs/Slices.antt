-- Slices: a hart runs so many instructions in a row, and stops for the reason that is named.
use Rattle.std.specs.Prelude.{◌≡◌, ℕ, Bool, ◌+◌, ◌<◌, ◌⊎◌, true, false, Some, None, IsSome, replicate, Contains}
use Rattle.rv_exec.specs.Bounds.{Pass}
use Rattle.flat_machine.specs.Process.{Process, is_live, may_step, flat_run}
use Rattle.flat_machine.specs.Refusals.{WantsMemory}
use Rattle.space_core.specs.declared.progress.Progress.{Progress}
use Rattle.space_core.specs.declared.progress.Progress.TheVariants as progress
use Rattle.space_core.specs.declared.progress.SliceStop.{SliceStop}
use Rattle.space_core.specs.declared.progress.SliceStop.TheVariants.{Budget, Absent, Yield, HartDone, Ended, NoHart, ScheduleFull, NoMemory}
use Rattle.space_core.specs.Next.{next_progress, next_pages, next_stores}

-- this holds of the process before each of so many instructions of a hart
abbrev pub EachStep : (Process → Type 0) → ℕ → ℕ → Process → Type 0
EachStep P hart count before = (done : ℕ) (at : Process) → done < count → flat_run (replicate done hart) before ≡ Some at → P at

-- whatever tests hold of the pages that were marked, and of those that so many instructions of a hart use and store to, hold
-- of the pages that are marked now: no other page's mark was set
pub record BoundsEach (old new : (ℕ → Bool) → (ℕ → Bool) → Type 0) (hart count : ℕ) (before : Process) : Type 0 where
  pub bound : (use_test store_test : ℕ → Bool)
      → EachStep (λ at. Pass use_test (next_pages hart at) × Pass store_test (next_stores hart at)) hart count before
      → old use_test store_test → new use_test store_test

-- the hart's next instruction is no yield and ends neither the hart nor the process
abbrev pub PassesOn : ℕ → Process → Type 0
PassesOn hart process = (next_progress hart process ≡ Some progress.GoesOn) ⊎ (next_progress hart process ≡ Some progress.Spawned)

-- the last of so many instructions is this, and those before it pass on
pub record EndsWith (hart : ℕ) (before : Process) (what : Progress) (ran : ℕ) : Type 0 where
  pub earlier : ℕ
  pub last : Process
  pub count : earlier + 1 ≡ ran
  pub on : EachStep (PassesOn hart) hart earlier before
  pub reached : flat_run (replicate earlier hart) before ≡ Some last
  pub was : next_progress hart last ≡ Some what

-- fewer ran than were allowed, all pass on, and the hart may step
pub record StopsShort (hart budget : ℕ) (before : Process) (ran : ℕ) (after : Process) : Type 0 where
  pub fewer : ran < budget
  pub on : EachStep (PassesOn hart) hart ran before
  pub may : may_step hart after ≡ true

-- why a slice stops after so many instructions that ran, of a budget, from one process to another; some pages were lacking
abbrev pub Stops : (ℕ → Type 0) → ℕ → ℕ → Process → SliceStop → ℕ → Process → Type 0
Stops lacks hart budget before Budget ran after = (ran ≡ budget) × (0 < ran → may_step hart after ≡ true) × EachStep (PassesOn hart) hart ran before
Stops lacks hart budget before (Absent page) ran after = StopsShort hart budget before ran after × Contains (next_pages hart after) page × lacks page
Stops lacks hart budget before Yield ran after = EndsWith hart before progress.Yielded ran
Stops lacks hart budget before HartDone ran after = EndsWith hart before progress.HartDone ran
Stops lacks hart budget before Ended ran after = ((ran ≡ 0) × (0 < budget) × IsSome before.ending) ⊎ EndsWith hart before progress.Ended ran
Stops lacks hart budget before NoHart ran after = (ran ≡ 0) × (0 < budget) × (before.ending ≡ None) × (is_live hart before ≡ false)
Stops lacks hart budget before ScheduleFull ran after = ⊥
Stops lacks hart budget before NoMemory ran after = StopsShort hart budget before ran after × WantsMemory hart after

-- the same where the schedule takes only so many more instructions of the hart: it is full where the next one would not fit, and that
-- comes before what the next one lacks
abbrev pub StopsRecorded : (ℕ → Type 0) → ℕ → ℕ → ℕ → Process → SliceStop → ℕ → Process → Type 0
StopsRecorded lacks hart budget room before Budget ran after = Stops lacks hart budget before Budget ran after
StopsRecorded lacks hart budget room before (Absent page) ran after = (ran < room) × Stops lacks hart budget before (Absent page) ran after
StopsRecorded lacks hart budget room before Yield ran after = Stops lacks hart budget before Yield ran after
StopsRecorded lacks hart budget room before HartDone ran after = Stops lacks hart budget before HartDone ran after
StopsRecorded lacks hart budget room before Ended ran after = Stops lacks hart budget before Ended ran after
StopsRecorded lacks hart budget room before NoHart ran after = Stops lacks hart budget before NoHart ran after
StopsRecorded lacks hart budget room before ScheduleFull ran after = (ran ≡ room) × StopsShort hart budget before ran after
StopsRecorded lacks hart budget room before NoMemory ran after = (ran < room) × Stops lacks hart budget before NoMemory ran after
