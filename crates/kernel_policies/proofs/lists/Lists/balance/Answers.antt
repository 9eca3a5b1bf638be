use Rattle.std.proofs.Common.{◌∙◌}
use Rattle.kernel_policies.specs.TwoLists.{lists_of}
use Rattle.kernel_policies.proofs.TwoListsLaws.{balanced_found, balanced_more}
use Rattle.kernel_policies.proofs.lists.Lists.balance.Goals as goal

pub loop-turn-preserved : goal.loop-turn-preserved
loop-turn-preserved c =
    balanced_more c.args.ratio c.args.turns c.loop-turn._turn (lists_of c.loop-turn.self) (lists_of c.demote.new.self) c.loop-turn-test.true c.if-not-is_low.ensures c.in_ok-demote.ensures
    ∙ c.loop-turn.invariant

pub returns-then-not-is_low : goal.returns-then-not-is_low
returns-then-not-is_low c = balanced_found c.args.ratio c.args.turns c.loop-turn._turn (lists_of c.loop-turn.self) c.loop-turn-test.true c.if-not-is_low.ensures ∙ c.loop-turn.invariant
