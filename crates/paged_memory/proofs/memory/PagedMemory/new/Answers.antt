use Rattle.paged_memory.proofs.access_laws.CallLaws.{holds_new}
use Rattle.paged_memory.proofs.memory.PagedMemory.new.Goals as goal

pub invariant_of-result : goal.invariant_of-result
invariant_of-result g c = rw (c.in_ok-new.ensures, c.new-3.ensures) (holds_new _ _ c.in_ok-new-2.field-0 c.in_ok-new-2.ensures.entries)
