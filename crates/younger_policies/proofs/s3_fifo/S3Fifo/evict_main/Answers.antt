use Rattle.std.proofs.Common.{◌∙◌}
use Rattle.younger_policies.specs.S3Fifo.{queues_of}
use Rattle.younger_policies.proofs.S3FifoLaws.{main_more}
use Rattle.younger_policies.proofs.s3_fifo.S3Fifo.evict_main.Goals as goal

pub loop-turn-preserved : goal.loop-turn-preserved
loop-turn-preserved c = record {
  queues = main_more c.args.turns c.loop-turn._turn (queues_of c.loop-turn.self) (queues_of c.turn_main.new.self) c.loop-turn-test.true c.if-not-is_main_tail_used.ensures c.in_ok-turn_main.ensures.queues
      ∙ c.loop-turn.invariant.queues;
  rooms = c.turn_main.ensures.rooms ∙ c.loop-turn.invariant.rooms;
}
