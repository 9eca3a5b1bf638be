use Rattle.std.specs.Prelude.{◌≡◌, ◌++◌, take, drop}
use Rattle.clock_ring.specs.RingState.{around, Rests}
use Rattle.clock_ring.proofs.body.Body.entry.Given as goal

abbrev pub invariant-loop-passed : goal.invariant-loop-passed
invariant-loop-passed l = record {
  rests : Rests l.self.ring.cells l.at;
  here : around l.self.ring.cells l.at ≡ drop l._passed l.self.ring.cells ++ take l._passed l.self.ring.cells;
}
