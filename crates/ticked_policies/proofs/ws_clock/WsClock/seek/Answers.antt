use Rattle.std.proofs.Common.{◌∙◌}
use Rattle.ticked_policies.specs.WsClock.{circle_of}
use Rattle.ticked_policies.proofs.WsClockLaws.{sought_found, sought_more}
use Rattle.ticked_policies.proofs.ws_clock.WsClock.seek.Goals as goal

pub loop-turn-preserved : goal.loop-turn-preserved
loop-turn-preserved c = record {
  circle = sought_more c.args.steps c.loop-turn._turn (circle_of c.loop-turn.self) (circle_of c.move_on.new.self) c.loop-turn-test.true c.if-not-is_hand_changed.ensures c.in_ok-move_on.ensures.circle
      ∙ c.loop-turn.invariant.circle;
  tau = c.move_on.ensures.tau ∙ c.loop-turn.invariant.tau;
  frames = c.move_on.ensures.frames ∙ c.loop-turn.invariant.frames;
}

pub returns-then-not-is_hand_changed-clause-circle : goal.returns-then-not-is_hand_changed-clause-circle
returns-then-not-is_hand_changed-clause-circle c = sought_found c.args.steps c.loop-turn._turn (circle_of c.loop-turn.self) c.loop-turn-test.true c.if-not-is_hand_changed.ensures ∙ c.loop-turn.invariant.circle
