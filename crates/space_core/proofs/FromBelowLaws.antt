-- What a step leaves, from below, is what its slice does.
use Rattle.std.proofs.Common.{◌≡◌, ℕ, List, Result, Ok, Err, inl, inr, sym, subst, arith}
use Rattle.std.specs.Prelude.{All, Some}
use Rattle.page_memory.specs.Words.{page_number}
use Rattle.rv_exec.specs.Leaves.{Missed}
use Rattle.rv_exec.specs.Registers.{Registers}
use Rattle.env_calls.specs.declared.served.ServeStop.{ServeStop}
use Rattle.env_calls.specs.declared.served.ServeStop.TheVariants as serve
use Rattle.env_calls.specs.declared.stepping.Stepped.{Stepped}
use Rattle.env_calls.specs.Leaving.{LeavesStep}
use Rattle.env_calls.specs.Step.{step_stores}
use Rattle.flat_machine.specs.Process.{Process, hart_registers}
use Rattle.paged_memory.specs.access.HartMemory.{MarksSince, UsedSince}
use Rattle.paged_memory.specs.access.Missing.{MissesIn, TakesSince}
use Rattle.paged_memory.specs.moves.Moving.{OnlyCaches}
use Rattle.paged_memory.specs.Paged.{PagedValue}
use Rattle.paged_memory.specs.access.Using.{cache_in}
use Rattle.space_core.specs.declared.progress.Progress.{Progress}
use Rattle.space_core.specs.declared.progress.SliceStop.{SliceStop}
use Rattle.space_core.specs.declared.progress.SliceStop.TheVariants.{Budget, Absent, Yield, HartDone, Ended, NoHart, ScheduleFull, NoMemory}
use Rattle.space_core.specs.FromBelow.{LeavesNext, MissesNext, AtAbsent}
use Rattle.space_core.specs.Next.{next_stores, begun}
use Rattle.space_core.proofs.Bounding.{stores_are}

module _ {S : Type 0} (hart : ℕ) where
  -- a step of a hart with these registers, in its process
  abbrev pub LeavesOf : Process → Registers → PagedValue S → PagedValue S → Result Stepped ServeStop → Type 0
  LeavesOf process r before after result = LeavesStep (TakesSince after (cache_in before hart)) (UsedSince hart after (cache_in before hart)) (MissesIn before hart) (page_number r.pc) (step_stores hart r process.memory) result

  pub next_taken : (process : Process) (r : Registers) (before after : PagedValue S) (s : Stepped) (what : Progress) → hart_registers hart process ≡ Some r → LeavesOf process r before after (Ok s) → LeavesNext hart process before after (Ok what)
  next_taken process r before after s what are leaves = record {
    registers = r;
    are = are;
    leaves = subst (All (TakesSince after (cache_in before hart))) (sym (stores_are hart process r are)) leaves;
  }

  pub next_not_taken : (process : Process) (r : Registers) (before after : PagedValue S) (why : ServeStop) → hart_registers hart process ≡ Some r → LeavesOf process r before after (Err why) → LeavesNext hart process before after (Err why)
  next_not_taken process r before after serve.NoMemory are leaves = record {
    registers = r;
    are = are;
    leaves = subst (All (TakesSince after (cache_in before hart))) (sym (stores_are hart process r are)) leaves;
  }
  next_not_taken process r before after (serve.Absent page) are leaves = record {
    registers = r;
    are = are;
    leaves = subst (λ stores. Missed (UsedSince hart after (cache_in before hart)) (MissesIn before hart) (page_number r.pc) stores page) (sym (stores_are hart process r are)) leaves;
  }

  pub misses_next : (process : Process) (before after : PagedValue S) (page : ℕ) → LeavesNext hart process before after (Err (serve.Absent page)) → MissesNext hart process before after page
  misses_next process before after page next = record {
    registers = next.registers;
    are = next.are;
    missed = elim next.leaves [ inl code ↦ inl code | inr behind ↦ inr (behind.0.0, behind.1) ];
  }

  -- where nothing but caches changed since
  pub misses_settled : (process : Process) (before after new : PagedValue S) (page : ℕ) → OnlyCaches after new → MissesNext hart process before after page → MissesNext hart process before new page
  misses_settled process before after new page only was = record {
    registers = was.registers;
    are = was.are;
    missed = subst (λ (m : PagedValue S). Missed (MarksSince m (cache_in before hart)) (MissesIn before hart) (page_number was.registers.pc) (next_stores hart process) page) (sym only) was.missed;
  }

pub takes_settled : {S : Type 0} (hart : ℕ) (before after new : PagedValue S) (pages : List ℕ) → OnlyCaches after new → All (TakesSince after (cache_in before hart)) pages → All (TakesSince new (cache_in before hart)) pages
takes_settled hart before after new pages only all = subst (λ m. All (TakesSince m (cache_in before hart)) pages) (sym only) all

pub at_absent : (why : SliceStop) (P Q : ℕ → Type 0) → ((page : ℕ) → P page → Q page) → AtAbsent why P → AtAbsent why Q
at_absent (Absent page) P Q on was = on page was
at_absent Budget P Q on was = tt
at_absent Yield P Q on was = tt
at_absent HartDone P Q on was = tt
at_absent Ended P Q on was = tt
at_absent NoHart P Q on was = tt
at_absent ScheduleFull P Q on was = tt
at_absent NoMemory P Q on was = tt

-- where none was begun, none was absent
pub none_absent : (why : SliceStop) (P : ℕ → Type 0) → begun why 0 ≡ 0 → AtAbsent why P
none_absent (Absent page) P none = absurd (omega (arith, none))
none_absent Budget P none = tt
none_absent Yield P none = tt
none_absent HartDone P none = tt
none_absent Ended P none = tt
none_absent NoHart P none = tt
none_absent ScheduleFull P none = tt
none_absent NoMemory P none = tt
