-- The inner loop of a hart: what its instructions come to, on its process's memory. Only the helpers that run it say this.
use Rattle.std.specs.Prelude.{◌≡◌, ℕ, zero, suc, ◌<◌, List, slice_set, slice_index_or}
use Rattle.page_memory.specs.Memory.{Memory}
use Rattle.page_memory.specs.Words.{page_number}
use Rattle.rv_exec.specs.declared.outcome.Outcome.{Outcome}
use Rattle.rv_exec.specs.declared.outcome.Outcome.TheVariants.{Done, Ecall, Trap, Absent}
use Rattle.rv_exec.specs.Leaves.{LeavesPages}
use Rattle.rv_exec.specs.Registers.{Registers}
use Rattle.rv_exec.specs.Uses.{pages_stored}
use Rattle.env_calls.specs.Finishing.{CameTo}
use Rattle.flat_machine.specs.Process.{IsWhole}
use Rattle.paged_memory.specs.Coheres.{Coheres}
use Rattle.paged_memory.specs.access.HartMemory.{KeepsAccess, UsedSince}
use Rattle.paged_memory.specs.access.Missing.{MissesIn, TakesSince}
use Rattle.paged_memory.specs.Paged.{PagedValue, memory_of}
use Rattle.paged_memory.specs.access.Using.{cache_in, HasIn, LacksIn, MarkedIn}
use Rattle.space_core.specs.RunningValue.{RunningValue, with_memory}

module _ {S : Type 0} (held : S → List ℕ) (honest : Type 0) (hart : ℕ) where
  -- a hart's instruction came to this outcome: a page's use may be without a mark only where the hart had a translation of it
  -- that was to be dropped when that very instruction began
  pub record RunsTo (outcome : Outcome) (regs : Registers) (old : PagedValue S) (regs' : Registers) (new : PagedValue S) : Type 0 where
    pub came : CameTo (HasIn old hart) (UsedSince hart new (cache_in old hart)) (LacksIn old) (MarkedIn old) (MarkedIn new) hart outcome regs (memory_of held old) regs' (memory_of held new)
    pub leaves : LeavesPages (TakesSince new (cache_in old hart)) (UsedSince hart new (cache_in old hart)) (MissesIn old hart) (MissesIn new hart) (page_number regs.pc) (pages_stored regs (memory_of held old)) outcome
    pub kept : KeepsAccess hart old new
    pub coheres : Coheres held honest new

  -- so many that were done
  unfoldable pub RunsEach : ℕ → Registers → PagedValue S → Registers → PagedValue S → Type 0
  RunsEach zero regs old regs' new = (regs' ≡ regs) × (new ≡ old)
  RunsEach (suc n) regs old regs' new = (between : Registers × PagedValue S) × (RunsEach n regs old between.0 between.1 × RunsTo Done between.0 between.1 regs' new)

  -- fewer than were allowed, and after them one that came to something else
  pub record RunsShort (most count : ℕ) (outcome : Outcome) (regs : Registers) (old : PagedValue S) (regs' : Registers) (new : PagedValue S) : Type 0 where
    pub fewer : count < most
    pub between : PagedValue S
    pub each : RunsEach count regs old regs' between
    pub at_last : RunsTo outcome regs' between regs' new

  -- all that were allowed were done, or fewer
  abbrev pub RunsUntil : ℕ → ℕ → Outcome → Registers → PagedValue S → Registers → PagedValue S → Type 0
  RunsUntil most count Done regs old regs' new = (count ≡ most) × RunsEach count regs old regs' new
  RunsUntil most count Ecall regs old regs' new = RunsShort most count Ecall regs old regs' new
  RunsUntil most count (Trap cause value) regs old regs' new = RunsShort most count (Trap cause value) regs old regs' new
  RunsUntil most count (Absent page) regs old regs' new = RunsShort most count (Absent page) regs old regs' new

-- a hart's registers go on so, in a process whose harts are all there
pub record HartRuns (hart : ℕ) (how : Registers → Registers → Type 0) (old new : RunningValue) : Type 0 where
  pub regs : Registers
  pub regs' : Registers
  pub first : regs ≡ slice_index_or old.harts hart regs
  pub left : new ≡ record old { harts = slice_set old.harts hart regs' }
  pub runs : how regs regs'
  pub whole : (memory : Memory) → IsWhole (with_memory old memory)
