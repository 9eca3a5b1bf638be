use Rattle.std.proofs.Common.{◌≡◌}
use Rattle.tlb_core.specs.Cache.{doomed}
use Rattle.paged_memory.proofs.Mapping.{mapped_below}
use Rattle.paged_memory.proofs.caches.doom_each.Given as goal

-- the caches so far are changed
abbrev pub invariant-loop-cache : goal.invariant-loop-cache
invariant-loop-cache l = l.caches ≡ mapped_below (doomed l.page) l.initial.caches l.cache-index
