-- the map is beside the slots
use Rattle.std.specs.HashMap.{get_by}
use Rattle.page_ring.specs.Slots.{same_key, in_slot}
use Rattle.page_ring.proofs.SlotLaws.{take_second_alone}
use Rattle.page_ring.proofs.node_index.NodeIndex.remove.Goals as goal

pub returns-else-is_some_and-clause-parted : goal.returns-else-is_some_and-clause-parted
returns-else-is_some_and-clause-parted c =
    take_second_alone (in_slot c.args.self.now.slots.items) (λ k. get_by (same_key k) c.args.self.now.others) (λ k. get_by (same_key k) c.remove.new.self) c.args.key c.remove.ensures.updates.0 c.requires
