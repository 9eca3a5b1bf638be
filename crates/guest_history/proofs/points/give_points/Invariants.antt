use Rattle.std.proofs.Common.{◌≡◌}
use Rattle.guest_history.proofs.Filled.{clearing}
use Rattle.guest_history.proofs.points.give_points.Given as goal

-- The points before the next one are as they are to be.
abbrev pub invariant-numbers : goal.invariant-numbers
invariant-numbers l = record {
  cleared : l.debugger.points ≡ clearing l.number l.points;
  target : l.debugger.target ≡ l.fn.debugger.target;
  turn : l.debugger.turn ≡ l.fn.debugger.turn;
}
