use Rattle.std.proofs.Common.{◌≡◌, ◌≤◌, length, take}
use Rattle.guest_profile.specs.Calls.{last_sought}
use Rattle.guest_profile.proofs.call_stack.last_sought.Given as goal

abbrev pub invariant-places : goal.invariant-places
invariant-places l = record {
  within : l.place ≤ length l.pending;
  before : last_sought l.sought l.pending ≡ last_sought l.sought (take l.place l.pending);
}

abbrev pub decreases-places : goal.decreases-places
decreases-places l = l.place
