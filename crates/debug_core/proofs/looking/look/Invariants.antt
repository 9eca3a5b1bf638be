use Rattle.std.proofs.Common.{◌≡◌, ℕ, ◌≤◌, ◌<◌, false, length, drop, [], None, slice_index_or}
use Rattle.std.specs.List.{position_from}
use Rattle.page_memory.specs.Memory.{Memory}
use Rattle.debug_core.specs.Limits.{KeepsRoom}
use Rattle.debug_core.specs.Points.{is_hit}
use Rattle.debug_core.specs.Seen.{AreSeen, IsSeen}
use Rattle.debug_core.proofs.looking.look.Given as goal

-- The watches so far are seen as they are now, and none of them was hit; the others are as before.
abbrev pub invariant-points : goal.invariant-points
invariant-points g l =
    let shown = g.T.Target.shown in
    let now = (shown l.fn.target).memory in
    record {
      room : length l.seen ≡ length l.fn.seen;
      shown : shown l.target ≡ shown l.fn.target;
      below : (number : ℕ) → number < l.number → IsSeen (slice_index_or l.points number None) (slice_index_or l.seen number []) now;
      above : (number : ℕ) → l.number ≤ number → slice_index_or l.seen number [] ≡ slice_index_or l.fn.seen number [];
      kept : KeepsRoom (g.T.Target.limits l.fn.target) (g.T.Target.limits l.target);
      passed : (was : Memory) → AreSeen l.points l.fn.seen was → (number : ℕ) → number < l.number → is_hit was now (slice_index_or l.points number None) ≡ false;
      none : (was : Memory) → AreSeen l.points l.fn.seen was → position_from (is_hit was now) 0 l.points ≡ position_from (is_hit was now) l.number (drop l.number l.points);
    }
