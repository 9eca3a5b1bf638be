use Rattle.std.specs.Prelude.{◌≡◌, find, true}
use Rattle.clock_policy.specs.ClockPro.{is_hot}
use Rattle.page_ring.specs.Linked.{is_at}
use Rattle.page_ring.specs.Index.{entries_of}
use Rattle.clock_ring.specs.RingState.{around}
use Rattle.clock_ring.proofs.ScanLaws.{steps_to}
use Rattle.clock_ring.proofs.scan.first_hot.Given as goal

abbrev pub invariant-to_hot : goal.invariant-to_hot
invariant-to_hot l = record {
  there : is_at l.ring.cells l.at ≡ true;
  same : find (λ e. is_hot e.kind) (entries_of (around l.ring.cells l.at)) ≡ find (λ e. is_hot e.kind) (entries_of (around l.ring.cells l.start));
}

abbrev pub decreases-to_hot : goal.decreases-to_hot
decreases-to_hot l = steps_to (λ e. is_hot e.kind) (entries_of (around l.ring.cells l.at))
