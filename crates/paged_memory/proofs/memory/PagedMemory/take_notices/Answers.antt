use Rattle.std.proofs.Common.{◌<◌, length, sym, subst}
use Rattle.paged_memory.proofs.access_laws.HartLaws.{holds_noticed}
use Rattle.paged_memory.proofs.memory.PagedMemory.take_notices.Goals as goal

pub invariant_of-self : goal.invariant_of-self
invariant_of-self g c = let within : c.args.hart < length c.self.inside.caches = subst (λ v. c.args.hart < length v.caches) (sym c.self.view_is) c.requires in rw c.drop_doomed.ensures (holds_noticed c.self.invariant c.args.hart within)
