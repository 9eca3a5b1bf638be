use Rattle.std.proofs.Common.{◌≡◌, ◌≤◌, ℕ, length, None}
use Rattle.debug_core.specs.Points.{point_at}
use Rattle.debug_core.proofs.debugger.used.Given as goal

-- no point has a number that was passed
abbrev pub invariant-points : goal.invariant-points
invariant-points l = record {
  within : l.used ≤ length l.points;
  none : (number : ℕ) → l.used ≤ number → point_at l.points number ≡ None;
}

abbrev pub decreases-points : goal.decreases-points
decreases-points l = l.used
