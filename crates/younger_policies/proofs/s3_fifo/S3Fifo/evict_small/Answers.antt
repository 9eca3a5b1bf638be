use Rattle.std.proofs.Common.{◌∙◌, ap}
use Rattle.page_policies.specs.Ordered.{last_of}
use Rattle.younger_policies.specs.S3Fifo.{small_up, queues_of}
use Rattle.younger_policies.proofs.S3FifoLaws.{small_more}
use Rattle.younger_policies.proofs.s3_fifo.S3Fifo.evict_small.Goals as goal

pub loop-turn-preserved : goal.loop-turn-preserved
loop-turn-preserved c = record {
  queues = small_more c.args.self.now.rooms c.args.turns c.loop-turn._turn (queues_of c.loop-turn.self) (queues_of c.move_up.new.self) c.loop-turn-test.true c.if-not-is_small_tail_busy.ensures
      (c.in_ok-move_up.ensures.queues ∙ ap (λ r. small_up r (last_of c.loop-turn.self.small) (queues_of c.loop-turn.self)) c.loop-turn.invariant.rooms)
      ∙ c.loop-turn.invariant.queues;
  rooms = c.move_up.ensures.rooms ∙ c.loop-turn.invariant.rooms;
}
