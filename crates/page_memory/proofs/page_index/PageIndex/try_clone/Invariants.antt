use Rattle.std.proofs.Common.{◌≡◌, take}
use Rattle.page_memory.proofs.page_index.PageIndex.try_clone.Given as goal

-- the pages before this place are copied
abbrev pub invariant-places : goal.invariant-places
invariant-places l = l.copy ≡ take l.place l.self-inside.pages.items
