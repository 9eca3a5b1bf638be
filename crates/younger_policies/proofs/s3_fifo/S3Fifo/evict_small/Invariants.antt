use Rattle.std.proofs.Common.{◌≡◌, ◌-◌}
use Rattle.younger_policies.specs.S3Fifo.{evicted_small, queues_of}
use Rattle.younger_policies.proofs.s3_fifo.S3Fifo.evict_small.Given as goal

abbrev pub invariant-loop-turn : goal.invariant-loop-turn
invariant-loop-turn l = record {
  queues : evicted_small l.initial.self.rooms (l.turns - l._turn) (queues_of l.self) ≡ evicted_small l.initial.self.rooms l.turns (queues_of l.initial.self);
  rooms : l.self.rooms ≡ l.initial.self.rooms;
}
