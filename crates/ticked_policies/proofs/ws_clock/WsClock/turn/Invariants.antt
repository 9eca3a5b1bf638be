use Rattle.std.proofs.Common.{◌≡◌, ◌-◌}
use Rattle.ticked_policies.specs.declared.hand_step.HandStep.TheVariants.{Passes}
use Rattle.ticked_policies.specs.WsClock.{turned, circle_of}
use Rattle.ticked_policies.proofs.ws_clock.WsClock.turn.Given as goal

abbrev pub invariant-loop-turn : goal.invariant-loop-turn
invariant-loop-turn l = record {
  turned_to : turned (l.steps - l._turn) l.initial.self.tau l.so_far (circle_of l.self) ≡ turned l.steps l.initial.self.tau Passes (circle_of l.initial.self);
  tau : l.self.tau ≡ l.initial.self.tau;
  frames : l.self.frames ≡ l.initial.self.frames;
}
