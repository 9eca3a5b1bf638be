use Rattle.page_memory.proofs.RememberedLaws.{nothing_remembered}
use Rattle.page_memory.proofs.flat_pages.FlatPages.with_capacity.Goals as goal

pub invariant_of-result : goal.invariant_of-result
invariant_of-result c = nothing_remembered c.in_ok-with_capacity.field-0 c.new.result c.new.ensures
