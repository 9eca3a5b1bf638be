use Rattle.std.specs.Prelude.{◌≡◌, ◌≤◌, true}
use Rattle.clock_policy.specs.ClockPro.{is_shadow, shadow_count, trimmed_once}
use Rattle.clock_policy.specs.SingleMoves.{each_ended}
use Rattle.page_ring.specs.Linked.{is_at}
use Rattle.page_ring.specs.Index.{entries_of}
use Rattle.clock_ring.specs.BodyState.{state_of}
use Rattle.clock_ring.specs.RingState.{around}
use Rattle.clock_ring.proofs.ScanLaws.{steps_to}
use Rattle.clock_ring.proofs.body.Body.trim_once.Given as goal

abbrev pub invariant-to_shadow : goal.invariant-to_shadow
invariant-to_shadow l = record {
  there : is_at l.self.ring.cells l.at ≡ true;
  rest : each_ended (entries_of (around l.self.ring.cells l.at)) (state_of l.self) ≡ trimmed_once (state_of l.initial.self);
  some : 1 ≤ shadow_count (entries_of l.self.ring.cells);
}

abbrev pub decreases-to_shadow : goal.decreases-to_shadow
decreases-to_shadow l = steps_to (λ e. is_shadow e.kind) (entries_of (around l.self.ring.cells l.at))
