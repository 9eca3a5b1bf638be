use Rattle.paged_memory.proofs.access_laws.HartLaws.{holds_emptied}
use Rattle.paged_memory.proofs.memory.PagedMemory.clear_caches.Goals as goal

pub invariant_of-self : goal.invariant_of-self
invariant_of-self g c = rw c.clear_all.ensures (holds_emptied c.self.invariant)
