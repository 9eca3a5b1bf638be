use Rattle.page_memory.proofs.RememberedLaws.{nothing_remembered}
use Rattle.page_memory.proofs.flat_pages.FlatPages.map_zeroed.Goals as goal

pub invariant_of-self : goal.invariant_of-self
invariant_of-self c = nothing_remembered c.add_zeroed.new.self c.new-self-inside.result c.new-self-inside.ensures
