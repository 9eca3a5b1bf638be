use Rattle.std.proofs.Common.{ap, ◌∙◌}
use Rattle.std.specs.Ordering.{nat_cmp}
use Rattle.std.specs.FinMap.{get, get-empty}
use Rattle.page_memory.specs.Memory.{Memory}
use Rattle.scant_memory.proofs.guests.one_page.Goals as goal

pub map_page-requires-clause-absent : goal.map_page-requires-clause-absent
map_page-requires-clause-absent c = ap (λ (m : Memory). get m.pages 16) c.in_ok-memory.ensures ∙ get-empty nat_cmp 16
