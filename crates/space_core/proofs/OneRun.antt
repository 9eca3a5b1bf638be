-- What a bus's instruction leaves is said of the memory that was lent to it.
use Rattle.std.specs.Prelude.{◌≡◌, ℕ, List}
use Rattle.std.proofs.Common.{sym, ◌∙◌, subst}
use Rattle.page_memory.specs.Words.{page_number}
use Rattle.rv_exec.specs.declared.outcome.Outcome.{Outcome}
use Rattle.rv_exec.specs.Leaves.{LeavesPages}
use Rattle.rv_exec.specs.Registers.{Registers}
use Rattle.rv_exec.specs.Uses.{pages_stored}
use Rattle.paged_memory.specs.access.HartMemory.{UsedSince}
use Rattle.paged_memory.specs.access.Missing.{MissesIn, TakesSince}
use Rattle.paged_memory.specs.access.Using.{cache_in}
use Rattle.paged_memory.specs.Paged.{PagedValue, memory_of}

module _ {S : Type 0} (held : S → List ℕ) (hart : ℕ) where
  pub left_by_bus : (opening : _) (hart' later : ℕ) (old lent new : PagedValue S) (regs : Registers) (outcome : Outcome)
      → hart' ≡ hart → later ≡ hart' → lent ≡ old → cache_in old hart ≡ opening
      → LeavesPages (TakesSince new opening) (UsedSince later new opening) (MissesIn lent hart') (MissesIn new later) (page_number regs.pc) (pages_stored regs (memory_of held lent)) outcome
      → LeavesPages (TakesSince new (cache_in old hart)) (UsedSince hart new (cache_in old hart)) (MissesIn old hart) (MissesIn new hart) (page_number regs.pc) (pages_stored regs (memory_of held old)) outcome
  left_by_bus opening hart' later old lent new regs outcome same on memory opens leaves =
      subst (λ o. LeavesPages (TakesSince new o) (UsedSince hart new o) (MissesIn old hart) (MissesIn new hart) (page_number regs.pc) (pages_stored regs (memory_of held old)) outcome) (sym opens)
      (subst (λ m. LeavesPages (TakesSince new opening) (UsedSince hart new opening) (MissesIn m hart) (MissesIn new hart) (page_number regs.pc) (pages_stored regs (memory_of held m)) outcome) memory
      (subst (λ h. LeavesPages (TakesSince new opening) (UsedSince h new opening) (MissesIn lent hart) (MissesIn new h) (page_number regs.pc) (pages_stored regs (memory_of held lent)) outcome) (on ∙ same)
      (subst (λ h. LeavesPages (TakesSince new opening) (UsedSince later new opening) (MissesIn lent h) (MissesIn new later) (page_number regs.pc) (pages_stored regs (memory_of held lent)) outcome) same leaves)))
