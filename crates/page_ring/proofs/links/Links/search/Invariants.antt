use Rattle.page_ring.specs.Chain.{cells_of}
use Rattle.page_ring.proofs.SearchLaws.{Walks}
use Rattle.page_ring.proofs.links.Links.search.Given as goal

abbrev pub invariant-loop-passed : goal.invariant-loop-passed
invariant-loop-passed l = Walks l.self-inside.nodes l.at l._passed l.key (cells_of l.self-inside.nodes l.self-inside.front)
