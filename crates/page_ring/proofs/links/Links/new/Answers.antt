-- no node is an empty circle
use Rattle.std.specs.Prelude.{◌≡◌, [], refl}
use Rattle.slab.specs.Slab.{Slab, slab_len}
use Rattle.page_ring.specs.declared.links.Node.{Node}
use Rattle.page_ring.proofs.ChainLaws.{new_step, cells_held, held_cells}
use Rattle.page_ring.proofs.links.Links.new.Goals as goal

none_in : (s : Slab Node) → s.slots ≡ [] → slab_len s ≡ 0
none_in s h = rw h refl

pub invariant_of-result : goal.invariant_of-result
invariant_of-result c =
    held_cells c.in_ok-with_capacity.field-0 0 [] (new_step c.in_ok-with_capacity.field-0 0 (none_in c.in_ok-with_capacity.field-0 c.in_ok-with_capacity.ensures.empty))

pub returns-clause-cells : goal.returns-clause-cells
returns-clause-cells c =
    cells_held c.in_ok-with_capacity.field-0 0 [] (new_step c.in_ok-with_capacity.field-0 0 (none_in c.in_ok-with_capacity.field-0 c.in_ok-with_capacity.ensures.empty))
