use Rattle.std.proofs.Common.{◌∙◌}
use Rattle.textbook_policies.specs.GClock.{circle_of}
use Rattle.textbook_policies.proofs.GClockLaws.{swept_more}
use Rattle.textbook_policies.proofs.g_clock.GClock.sweep.Goals as goal

pub loop-turn-preserved : goal.loop-turn-preserved
loop-turn-preserved c = record {
  circle = swept_more c.args.turns c.loop-turn._turn (circle_of c.loop-turn.self) (circle_of c.pass.new.self) c.loop-turn-test.true c.if-not-is_hand_counted.ensures c.in_ok-pass.ensures.circle
      ∙ c.loop-turn.invariant.circle;
  counts = c.pass.ensures.counts ∙ c.loop-turn.invariant.counts;
  frames = c.pass.ensures.frames ∙ c.loop-turn.invariant.frames;
}
