use Rattle.std.specs.Prelude.{◌≡◌, ◌≤◌, ◌+◌, ◌++◌, take, drop, vec_len, vec_capacity}
use Rattle.page_ring.specs.Index.{entries_of}
use Rattle.clock_ring.specs.RingState.{around, Rests}
use Rattle.clock_ring.proofs.body.Body.copy_entries.Given as goal

abbrev pub invariant-loop-copied : goal.invariant-loop-copied
invariant-loop-copied l = record {
  rests : Rests l.self.ring.cells l.at;
  here : around l.self.ring.cells l.at ≡ drop l._copied l.self.ring.cells ++ take l._copied l.self.ring.cells;
  items : l.to.items ≡ l.initial.to.items ++ entries_of (take l._copied l.self.ring.cells);
  len : vec_len l.to ≡ vec_len l.initial.to + l._copied;
  room : vec_capacity l.initial.to ≤ vec_capacity l.to;
}
