use Rattle.paged_memory.proofs.access_laws.HartLaws.{holds_cleared}
use Rattle.paged_memory.proofs.memory.PagedMemory.clear_cache.Goals as goal

pub invariant_of-self : goal.invariant_of-self
invariant_of-self g c = rw c.clear.ensures (holds_cleared c.self.invariant c.args.hart)
