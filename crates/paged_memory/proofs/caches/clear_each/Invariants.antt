use Rattle.std.proofs.Common.{◌≡◌, []}
use Rattle.paged_memory.proofs.Mapping.{mapped_below}
use Rattle.paged_memory.proofs.caches.clear_each.Given as goal

-- the caches so far are changed
abbrev pub invariant-loop-cache : goal.invariant-loop-cache
invariant-loop-cache l = l.caches ≡ mapped_below (λ _. []) l.initial.caches l.cache-index
