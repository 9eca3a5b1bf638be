use Rattle.page_policies.specs.SecondChance.{slots_of}
use Rattle.page_policies.proofs.SlotLaws.{room_full, room_free}
use Rattle.page_policies.proofs.second_chance.make_room.Goals as goal

pub returns-then-frames-len-clause-slots : goal.returns-then-frames-len-clause-slots
returns-then-frames-len-clause-slots c = room_full c.args.frames c.len-len.result c.args.ring.now.cells (slots_of c.remove_one.new.ring.cells) c.len-len.ensures.len c.if-frames-len.true c.remove_one.ensures.slots

pub returns-else-frames-len-clause-slots : goal.returns-else-frames-len-clause-slots
returns-else-frames-len-clause-slots c = room_free c.args.frames c.len-len.result c.args.ring.now.cells c.len-len.ensures.len c.if-frames-len.false
