use Rattle.std.proofs.Common.{◌≡◌}
use Rattle.guest_history.proofs.Filled.{filling}
use Rattle.guest_history.proofs.points.fill.Given as goal

-- The points before the next one are there, and no others.
abbrev pub invariant-points : goal.invariant-points
invariant-points l = record {
  filled : l.debugger.points ≡ filling l.number l.points;
  target : l.debugger.target ≡ l.fn.debugger.target;
  turn : l.debugger.turn ≡ l.fn.debugger.turn;
}
