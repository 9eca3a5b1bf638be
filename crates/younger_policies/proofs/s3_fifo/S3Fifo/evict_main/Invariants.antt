use Rattle.std.proofs.Common.{◌≡◌, ◌-◌}
use Rattle.younger_policies.specs.S3Fifo.{evicted_main, queues_of}
use Rattle.younger_policies.proofs.s3_fifo.S3Fifo.evict_main.Given as goal

abbrev pub invariant-loop-turn : goal.invariant-loop-turn
invariant-loop-turn l = record {
  queues : evicted_main (l.turns - l._turn) (queues_of l.self) ≡ evicted_main l.turns (queues_of l.initial.self);
  rooms : l.self.rooms ≡ l.initial.self.rooms;
}
