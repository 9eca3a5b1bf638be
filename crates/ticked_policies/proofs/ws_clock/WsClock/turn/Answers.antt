use Rattle.std.proofs.Common.{◌∙◌, ℕ, ap}
use Rattle.page_policies.specs.Ordered.{last_of}
use Rattle.ticked_policies.specs.WsClock.{circle_of, hand_step, passed}
use Rattle.ticked_policies.proofs.WsClockLaws.{turned_more}
use Rattle.ticked_policies.proofs.ws_clock.WsClock.turn.Goals as goal

pub loop-turn-preserved : goal.loop-turn-preserved
loop-turn-preserved c =
    let s = circle_of c.loop-turn.self in record {
      turned_to = turned_more c.args.steps c.loop-turn._turn c.args.self.now.tau c.loop-turn.so_far c.after-so_far.result c.hand_step-step.result s (circle_of c.pass.new.self) c.loop-turn-test.true
          (c.hand_step-step.ensures ∙ ap (λ (tau : ℕ). hand_step tau (last_of s.pages) s) c.loop-turn.invariant.tau) c.if-finds.ensures c.after-so_far.ensures
          (c.in_ok-pass.ensures.circle ∙ ap (λ (tau : ℕ). passed tau (last_of s.pages) s) c.loop-turn.invariant.tau)
          ∙ c.loop-turn.invariant.turned_to;
      tau = c.pass.ensures.tau ∙ c.loop-turn.invariant.tau;
      frames = c.pass.ensures.frames ∙ c.loop-turn.invariant.frames;
    }
