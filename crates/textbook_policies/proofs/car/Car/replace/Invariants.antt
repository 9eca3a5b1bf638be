use Rattle.std.proofs.Common.{◌≡◌, ◌-◌}
use Rattle.textbook_policies.specs.Car.{replaced, clocks_of}
use Rattle.textbook_policies.proofs.car.Car.replace.Given as goal

abbrev pub invariant-loop-turn : goal.invariant-loop-turn
invariant-loop-turn l = record {
  clocks : replaced (l.turns - l._turn) (clocks_of l.self) ≡ replaced l.turns (clocks_of l.initial.self);
  frames : l.self.frames ≡ l.initial.self.frames;
}
