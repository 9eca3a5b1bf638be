-- What a hart's next instruction leaves, from below: each page that it stores to takes stores; and a page that was absent to it was not
-- in the hart's cache when its access came.
use Rattle.std.specs.Prelude.{◌≡◌, ℕ, Some, Result}
use Rattle.page_memory.specs.Words.{page_number}
use Rattle.rv_exec.specs.Leaves.{Missed}
use Rattle.rv_exec.specs.Registers.{Registers}
use Rattle.env_calls.specs.declared.served.ServeStop.{ServeStop}
use Rattle.env_calls.specs.Leaving.{LeavesStep}
use Rattle.flat_machine.specs.Process.{Process, hart_registers}
use Rattle.paged_memory.specs.access.HartMemory.{MarksSince, UsedSince}
use Rattle.paged_memory.specs.access.Missing.{MissesIn, TakesSince}
use Rattle.paged_memory.specs.Paged.{PagedValue}
use Rattle.paged_memory.specs.access.Using.{cache_in}
use Rattle.space_core.specs.declared.progress.Progress.{Progress}
use Rattle.space_core.specs.declared.progress.SliceStop.{SliceStop}
use Rattle.space_core.specs.declared.progress.SliceStop.TheVariants.{Budget, Absent, Yield, HartDone, Ended, NoHart, ScheduleFull, NoMemory}
use Rattle.space_core.specs.Next.{next_stores}

module _ {S : Type 0} (hart : ℕ) where
  -- of the next step, from one memory to another, by its answer
  pub record LeavesNext (process : Process) (before after : PagedValue S) (result : Result Progress ServeStop) : Type 0 where
    pub registers : Registers
    pub are : hart_registers hart process ≡ Some registers
    pub leaves : LeavesStep (TakesSince after (cache_in before hart)) (UsedSince hart after (cache_in before hart)) (MissesIn before hart) (page_number registers.pc) (next_stores hart process) result

  -- why the step's access to a page was refused: it was the fetch, and the hart's cache did not show the page; or the use of the code's
  -- page is marked, and the cache did not show the data's page after the fetch, which fills only a translation of the code's page
  pub record MissesNext (process : Process) (before after : PagedValue S) (page : ℕ) : Type 0 where
    pub registers : Registers
    pub are : hart_registers hart process ≡ Some registers
    pub missed : Missed (MarksSince after (cache_in before hart)) (MissesIn before hart) (page_number registers.pc) (next_stores hart process) page

-- a fact about the page that is absent, where a slice stops for one
abbrev pub AtAbsent : SliceStop → (ℕ → Type 0) → Type 0
AtAbsent (Absent page) fact = fact page
AtAbsent Budget fact = Unit {0}
AtAbsent Yield fact = Unit {0}
AtAbsent HartDone fact = Unit {0}
AtAbsent Ended fact = Unit {0}
AtAbsent NoHart fact = Unit {0}
AtAbsent ScheduleFull fact = Unit {0}
AtAbsent NoMemory fact = Unit {0}
