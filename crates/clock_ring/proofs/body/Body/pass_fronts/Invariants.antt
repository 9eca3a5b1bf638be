use Rattle.std.specs.Prelude.{◌≡◌}
use Rattle.clock_policy.specs.ClockPro.{place}
use Rattle.clock_policy.specs.SingleMoves.{fronts_passed}
use Rattle.clock_ring.specs.BodyState.{state_of, HoldsEntry}
use Rattle.clock_ring.proofs.body.Body.pass_fronts.Given as goal

abbrev pub invariant-to_front : goal.invariant-to_front
invariant-to_front l = record {
  holds : HoldsEntry l.self l.found;
  rest : fronts_passed (place l.found.entry.key (state_of l.self).entries) (state_of l.self) ≡ fronts_passed (place l.found.entry.key (state_of l.initial.self).entries) (state_of l.initial.self);
}

abbrev pub decreases-to_front : goal.decreases-to_front
decreases-to_front l = place l.found.entry.key (state_of l.self).entries
