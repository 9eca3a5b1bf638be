use Rattle.std.proofs.Common.{sym, ◌∙◌}
use Rattle.younger_policies.specs.Lirs.{lists_of}
use Rattle.younger_policies.proofs.LirsLaws.{pruned_more}
use Rattle.younger_policies.proofs.lirs.Lirs.prune.Goals as goal

pub loop-turn-preserved : goal.loop-turn-preserved
loop-turn-preserved c = record {
  lists = pruned_more c.args.turns c.loop-turn._turn (lists_of c.loop-turn.self) (lists_of c.drop_bottom.new.self) c.loop-turn-test.true (sym c.if-is_bottom_lir.false ∙ c.is_bottom_lir.ensures) c.drop_bottom.ensures.lists
      ∙ c.loop-turn.invariant.lists;
  rooms = c.drop_bottom.ensures.rooms ∙ c.loop-turn.invariant.rooms;
}
