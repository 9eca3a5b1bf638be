use Rattle.std.proofs.Common.{◌≡◌, ℕ, ◌≤◌, ◌<◌, length, drop, [], None, slice_index_or}
use Rattle.std.specs.Option.{option_or}
use Rattle.std.specs.List.{position_from}
use Rattle.page_memory.specs.Memory.{Memory}
use Rattle.debug_core.specs.Points.{is_hit}
use Rattle.debug_core.specs.Seen.{AreSeen, IsSeen}
use Rattle.run_paths.proofs.watching.look.Given as goal

-- The watches so far are seen as they are now, and the first of them that was hit is known; the others are as before.
abbrev pub invariant-points : goal.invariant-points
invariant-points l = record {
  room : length l.seen ≡ length l.fn.seen;
  below : (number : ℕ) → number < l.number → IsSeen (slice_index_or l.points number None) (slice_index_or l.seen number []) l.process.memory;
  above : (number : ℕ) → l.number ≤ number → slice_index_or l.seen number [] ≡ slice_index_or l.fn.seen number [];
  hit : (was : Memory) → AreSeen l.points l.fn.seen was → option_or l.hit (position_from (is_hit was l.process.memory) l.number (drop l.number l.points)) ≡ position_from (is_hit was l.process.memory) 0 l.points;
}
