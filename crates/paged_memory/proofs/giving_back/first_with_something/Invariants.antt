use Rattle.std.proofs.Common.{ℕ, ◌<◌, ◌≤◌, ◌-◌, ◌^◌}
use Rattle.paged_memory.specs.moves.GivingBack.{GivesNothing}
use Rattle.paged_memory.specs.Paged.{page_at}
use Rattle.paged_memory.proofs.giving_back.first_with_something.Given as goal

abbrev pub invariant-loop-vpn : goal.invariant-loop-vpn
invariant-loop-vpn g l = record {
  before : (q : ℕ) → q < l.from → GivesNothing (page_at l.pages q);
  looked : l.initial.from ≤ l.from;
}

abbrev pub decreases-loop-vpn : goal.decreases-loop-vpn
decreases-loop-vpn g l = 2 ^ 20 - l.from
