-- What a notice and an ending do to the caches of a process's harts.
use Rattle.std.specs.Prelude.{ℕ, [], map, length, nat_lt, slice_set, if◌then◌else◌}
use Rattle.tlb_core.specs.Cache.{undoomed}
use Rattle.paged_memory.specs.Paged.{PagedValue}
use Rattle.paged_memory.specs.access.Using.{cache_in}

-- a hart has dropped its translations that were to be dropped
abbrev pub dropped : {S : Type 0} → ℕ → PagedValue S → PagedValue S
dropped hart memory = record memory { caches = slice_set memory.caches hart (undoomed (cache_in memory hart)) }

-- the same of any number; a hart that was not started has none
abbrev pub noticed : {S : Type 0} → ℕ → PagedValue S → PagedValue S
noticed hart memory = if nat_lt hart (length memory.caches) then dropped hart memory else memory

-- a hart's cache is emptied
abbrev pub cleared : {S : Type 0} → ℕ → PagedValue S → PagedValue S
cleared hart memory = record memory { caches = slice_set memory.caches hart [] }

-- the caches of all harts are emptied
abbrev pub emptied : {S : Type 0} → PagedValue S → PagedValue S
emptied memory = record memory { caches = map (λ _. []) memory.caches }
