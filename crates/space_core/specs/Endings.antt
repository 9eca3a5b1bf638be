-- How a hart's step ends, once its instruction came to an outcome, and how it is recorded. Only the helpers that do it say this.
use Rattle.std.specs.Prelude.{◌≡◌, ℕ, ◌+◌, ◌++◌, ◌≤◌, ◌<◌, true, List, All, replicate, slice_index_or, Option, Some, None, Result, Err, OnOk, OnErr, IfOk}
use Rattle.rv_exec.specs.declared.outcome.Outcome.{Outcome}
use Rattle.rv_exec.specs.Bounds.{Bounds}
use Rattle.rv_exec.specs.Outcomes.{Used}
use Rattle.rv_exec.specs.Registers.{Registers}
use Rattle.env_calls.specs.declared.served.ServeStop.{ServeStop}
use Rattle.env_calls.specs.declared.served.ServeStop.TheVariants as serve
use Rattle.env_calls.specs.Serving.{UsesPages}
use Rattle.flat_machine.specs.Process.{may_step, flat_step, flat_run}
use Rattle.flat_machine.specs.Refusals.{WantsMemory}
use Rattle.flat_machine.specs.Schedule.{written_out, room}
use Rattle.paged_memory.specs.access.HartMemory.{KeepsAccess, UsedSince}
use Rattle.paged_memory.specs.access.Missing.{TakesSince}
use Rattle.paged_memory.specs.Paged.{PagedValue, memory_of}
use Rattle.paged_memory.specs.access.Using.{cache_in, HasIn, LacksIn, MarkedIn}
use Rattle.space_core.specs.declared.progress.Progress.{Progress}
use Rattle.space_core.specs.declared.progress.SliceStop.{SliceStop}
use Rattle.space_core.specs.FromBelow.{AtAbsent, LeavesNext, MissesNext}
use Rattle.space_core.specs.HartLoop.{RunsTo, RunsEach, HartRuns}
use Rattle.space_core.specs.Next.{next_progress, next_pages, next_stores, answered, begun}
use Rattle.space_core.specs.RunningValue.{RunningValue, RecordedValue, with_memory}
use Rattle.space_core.specs.Slices.{EachStep, BoundsEach, StopsRecorded}
use Rattle.space_core.specs.Slicing.{shown_process}
use Rattle.space_core.specs.StandsFor.{SpaceValue}

module _ {S : Type 0} (held : S → List ℕ) (honest : Type 0) (hart : ℕ) where
  -- a process and its memory are what the hart's instruction left that came to this outcome
  pub record LeftBy (outcome : Outcome) (running : RunningValue) (memory : PagedValue S) : Type 0 where
    pub before : PagedValue S
    pub regs : Registers
    pub are : regs ≡ slice_index_or running.harts hart regs
    pub runs : RunsTo held honest hart outcome regs before regs memory

  -- the answer of a step, from the memory before its instruction to the one that it left
  pub record EndsStep (result : Result Progress ServeStop) (old : RunningValue) (before : PagedValue S) (new : RunningValue) (after : PagedValue S) : Type 0 where
    pub step : OnOk result (flat_step hart (with_memory old (memory_of held before)) ≡ Some (with_memory new (memory_of held after)))
    pub progress : IfOk result (λ progress. next_progress hart (with_memory old (memory_of held before)) ≡ Some progress)
    pub pages : UsesPages (HasIn before hart) (UsedSince hart after (cache_in before hart)) (LacksIn before) (next_pages hart (with_memory old (memory_of held before))) result
    pub bound : Bounds (MarkedIn before) (MarkedIn after) (next_pages hart (with_memory old (memory_of held before))) (next_stores hart (with_memory old (memory_of held before)))
    pub leaves : LeavesNext hart (with_memory old (memory_of held before)) before after result
    pub wants : result ≡ Err serve.NoMemory → WantsMemory hart (with_memory old (memory_of held before))
    pub stays : OnErr result (new ≡ old)
    pub memory_stays : OnErr result (memory_of held after ≡ memory_of held before)
    pub kept : KeepsAccess hart before after

  -- the same of a slice of one instruction, where the schedule takes so many more: whether it ran, and why it stops
  pub record EndsOne (fits ran : ℕ) (why : SliceStop) (old : RunningValue) (before : PagedValue S) (new : RunningValue) (after : PagedValue S) : Type 0 where
    pub ran_is : flat_run (replicate ran hart) (with_memory old (memory_of held before)) ≡ Some (with_memory new (memory_of held after))
    pub within : ran ≤ 1
    pub stops : StopsRecorded (LacksIn before) hart 1 fits (with_memory old (memory_of held before)) why ran (with_memory new (memory_of held after))
    pub pages : EachStep (λ at. Used (HasIn before hart) (UsedSince hart after (cache_in before hart)) (next_pages hart at)) hart (answered why ran) (with_memory old (memory_of held before))
    pub bound : BoundsEach (MarkedIn before) (MarkedIn after) hart (begun why ran) (with_memory old (memory_of held before))
    pub takes : EachStep (λ at. All (TakesSince after (cache_in before hart)) (next_stores hart at)) hart (answered why ran) (with_memory old (memory_of held before))
    pub missed : AtAbsent why (MissesNext hart (with_memory old (memory_of held before)) before after)
    pub kept : KeepsAccess hart before after

  -- the last instruction of several ended so, if it was not done as the others were
  abbrev pub EndsLast : Option (ℕ × SliceStop) → RunningValue → PagedValue S → RunningValue → PagedValue S → Type 0
  EndsLast None old before new after = (new ≡ old) × (after ≡ before)
  EndsLast (Some last) old before new after = (fits : ℕ) → 0 < fits → EndsOne fits last.0 last.1 old before new after

  abbrev pub with_last : ℕ → Option (ℕ × SliceStop) → ℕ
  with_last count None = count
  with_last count (Some last) = count + last.0

  -- so many instructions of a hart were done, after them the last one ended, and all that ran are recorded
  pub record RunsRecorded (count : ℕ) (last : Option (ℕ × SliceStop)) (old new : RecordedValue) (memory memory' : PagedValue S) : Type 0 where
    pub between : RunningValue
    pub before : PagedValue S
    pub runs : HartRuns hart (λ regs regs'. RunsEach held honest hart count regs memory regs' before) old.running between
    pub at_last : EndsLast last between before new.running memory'
    pub recorded : written_out new.schedule ≡ written_out old.schedule ++ replicate (with_last count last) hart
    pub left : room new.schedule hart + with_last count last ≡ room old.schedule hart

-- no instruction of the hart is run, whatever the next one is
abbrev pub RefusesAll : {S : Type 0} → (S → List ℕ) → ℕ → SpaceValue S → Type 0
RefusesAll held hart space = may_step hart (shown_process held space) ≡ true → room space.schedule hart ≡ 0
