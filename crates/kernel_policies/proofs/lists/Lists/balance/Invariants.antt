use Rattle.std.proofs.Common.{◌≡◌, ◌-◌}
use Rattle.kernel_policies.specs.TwoLists.{balanced, lists_of}
use Rattle.kernel_policies.proofs.lists.Lists.balance.Given as goal

abbrev pub invariant-loop-turn : goal.invariant-loop-turn
invariant-loop-turn l = balanced l.ratio (l.turns - l._turn) (lists_of l.self) ≡ balanced l.ratio l.turns (lists_of l.initial.self)
