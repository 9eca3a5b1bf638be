use Rattle.std.proofs.Common.{◌≡◌, ◌-◌}
use Rattle.textbook_policies.specs.GClock.{swept, circle_of}
use Rattle.textbook_policies.proofs.g_clock.GClock.sweep.Given as goal

abbrev pub invariant-loop-turn : goal.invariant-loop-turn
invariant-loop-turn l = record {
  circle : swept (l.turns - l._turn) (circle_of l.self) ≡ swept l.turns (circle_of l.initial.self);
  counts : l.self.counts ≡ l.initial.self.counts;
  frames : l.self.frames ≡ l.initial.self.frames;
}
