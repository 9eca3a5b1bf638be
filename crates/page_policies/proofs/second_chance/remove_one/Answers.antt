use Rattle.std.proofs.Common.{sym, ◌∙◌}
use Rattle.page_policies.specs.SecondChance.{slots_of}
use Rattle.page_policies.proofs.SlotLaws.{turn_more}
use Rattle.page_policies.proofs.second_chance.remove_one.Goals as goal

pub loop-turn-preserved : goal.loop-turn-preserved
loop-turn-preserved c = record {
  slots = turn_more c.args.turns c.loop-turn._turn (slots_of c.loop-turn.ring.cells) (slots_of c.turn.new.ring.cells) c.loop-turn-test.true (sym c.if-not-is_front_used.ensures) c.turn.ensures.slots ∙ c.loop-turn.invariant.slots;
  room = c.turn.ensures.room ∙ c.loop-turn.invariant.room;
}
