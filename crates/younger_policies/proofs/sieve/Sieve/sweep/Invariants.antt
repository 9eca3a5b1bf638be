use Rattle.std.proofs.Common.{◌≡◌, ◌-◌}
use Rattle.younger_policies.specs.Sieve.{swept, queue_of}
use Rattle.younger_policies.proofs.sieve.Sieve.sweep.Given as goal

abbrev pub invariant-loop-turn : goal.invariant-loop-turn
invariant-loop-turn l = record {
  queue : swept (l.turns - l._turn) (queue_of l.self) ≡ swept l.turns (queue_of l.initial.self);
  frames : l.self.frames ≡ l.initial.self.frames;
}
