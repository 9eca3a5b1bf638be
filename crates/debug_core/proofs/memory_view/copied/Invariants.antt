use Rattle.std.proofs.Common.{◌≡◌, ◌≤◌, true, Some, length, map, take, drop, vec_capacity}
use Rattle.debug_core.specs.Points.{all_there}
use Rattle.debug_core.proofs.memory_view.copied.Given as goal

-- the bytes so far are copied, and the others are there
abbrev pub invariant-bytes : goal.invariant-bytes
invariant-bytes l = record {
  here : map Some l.copy.items ≡ take l.i l.bytes;
  size : length l.copy.items ≡ l.i;
  rest : all_there (drop l.i l.bytes) ≡ true;
  within : l.i ≤ length l.bytes;
  room : length l.bytes ≤ vec_capacity l.copy;
}
