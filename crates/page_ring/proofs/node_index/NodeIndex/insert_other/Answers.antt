-- the map is beside the slots
use Rattle.std.specs.HashMap.{get_by}
use Rattle.page_ring.specs.Slots.{same_key, in_slot}
use Rattle.page_ring.proofs.SlotLaws.{put_second_alone}
use Rattle.page_ring.proofs.node_index.NodeIndex.insert_other.Goals as goal

pub returns-in-Ok-clause-parted : goal.returns-in-Ok-clause-parted
returns-in-Ok-clause-parted c =
    put_second_alone (in_slot c.args.self.now.slots.items) (λ k. get_by (same_key k) c.args.self.now.others) (λ k. get_by (same_key k) c.insert.new.self) c.args.key c.args.at c.in-Ok.ensures.updates.0 c.requires.new c.requires.parted
