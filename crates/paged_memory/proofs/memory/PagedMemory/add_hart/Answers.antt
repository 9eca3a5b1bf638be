use Rattle.paged_memory.proofs.access_laws.HartLaws.{holds_added}
use Rattle.paged_memory.proofs.memory.PagedMemory.add_hart.Goals as goal

pub invariant_of-self : goal.invariant_of-self
invariant_of-self g c = rw c.add.ensures (holds_added c.self.invariant)
