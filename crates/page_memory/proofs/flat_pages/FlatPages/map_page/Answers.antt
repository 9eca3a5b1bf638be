use Rattle.page_memory.proofs.RememberedLaws.{nothing_remembered}
use Rattle.page_memory.proofs.flat_pages.FlatPages.map_page.Goals as goal

pub invariant_of-self : goal.invariant_of-self
invariant_of-self c = nothing_remembered c.insert.new.self c.new-self-inside.result c.new-self-inside.ensures

pub invariant_of-self-2 : goal.invariant_of-self-2
invariant_of-self-2 c = nothing_remembered c.insert.new.self c.new-self-inside.result c.new-self-inside.ensures
