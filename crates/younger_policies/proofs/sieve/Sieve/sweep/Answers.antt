use Rattle.std.proofs.Common.{◌∙◌, sym}
use Rattle.younger_policies.specs.Sieve.{queue_of}
use Rattle.younger_policies.proofs.SieveLaws.{swept_more}
use Rattle.younger_policies.proofs.sieve.Sieve.sweep.Goals as goal

pub loop-turn-preserved : goal.loop-turn-preserved
loop-turn-preserved c = record {
  queue = swept_more c.args.turns c.loop-turn._turn (queue_of c.loop-turn.self) (queue_of c.pass.new.self) c.loop-turn-test.true (sym c.if-not-is_hand_visited.false ∙ c.is_hand_visited.ensures) c.in_ok-pass.ensures.queue
      ∙ c.loop-turn.invariant.queue;
  frames = c.pass.ensures.frames ∙ c.loop-turn.invariant.frames;
}
