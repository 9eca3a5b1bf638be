use Rattle.std.proofs.Common.{◌≡◌, ◌-◌}
use Rattle.ticked_policies.specs.WsClock.{sought, circle_of}
use Rattle.ticked_policies.proofs.ws_clock.WsClock.seek.Given as goal

abbrev pub invariant-loop-turn : goal.invariant-loop-turn
invariant-loop-turn l = record {
  circle : sought (l.steps - l._turn) (circle_of l.self) ≡ sought l.steps (circle_of l.initial.self);
  tau : l.self.tau ≡ l.initial.self.tau;
  frames : l.self.frames ≡ l.initial.self.frames;
}
