use Rattle.std.proofs.Common.{◌≡◌, ◌-◌}
use Rattle.younger_policies.specs.Lirs.{pruned, lists_of}
use Rattle.younger_policies.proofs.lirs.Lirs.prune.Given as goal

abbrev pub invariant-loop-turn : goal.invariant-loop-turn
invariant-loop-turn l = record {
  lists : pruned (l.turns - l._turn) (lists_of l.self) ≡ pruned l.turns (lists_of l.initial.self);
  rooms : l.self.rooms ≡ l.initial.self.rooms;
}
