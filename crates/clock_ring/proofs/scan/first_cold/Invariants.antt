use Rattle.std.specs.Prelude.{◌≡◌, find, true}
use Rattle.clock_policy.specs.ClockPro.{is_cold}
use Rattle.page_ring.specs.Linked.{is_at}
use Rattle.page_ring.specs.Index.{entries_of}
use Rattle.clock_ring.specs.RingState.{around}
use Rattle.clock_ring.proofs.ScanLaws.{steps_to}
use Rattle.clock_ring.proofs.scan.first_cold.Given as goal

abbrev pub invariant-to_cold : goal.invariant-to_cold
invariant-to_cold l = record {
  there : is_at l.ring.cells l.at ≡ true;
  same : find (λ e. is_cold e.kind) (entries_of (around l.ring.cells l.at)) ≡ find (λ e. is_cold e.kind) (entries_of (around l.ring.cells l.start));
}

abbrev pub decreases-to_cold : goal.decreases-to_cold
decreases-to_cold l = steps_to (λ e. is_cold e.kind) (entries_of (around l.ring.cells l.at))
