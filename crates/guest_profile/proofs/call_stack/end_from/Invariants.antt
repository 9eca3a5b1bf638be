use Rattle.std.proofs.Common.{◌≡◌, ◌≤◌, drop, length, take}
use Rattle.guest_profile.specs.declared.call_site.CallSite.{CallSite}
use Rattle.guest_profile.specs.Calls.{calls_of, ended}
use Rattle.guest_profile.proofs.call_stack.end_from.Given as goal

abbrev pub invariant-calls : goal.invariant-calls
invariant-calls l = record {
  within : l.place ≤ length l.pending.items;
  kept : take l.place l.pending.items ≡ take l.place l.fn.pending.items;
  counted : (site : CallSite) → ended l.done (drop l.place l.pending.items) site (calls_of l.counts site)
      ≡ ended l.done (drop l.place l.fn.pending.items) site (calls_of l.fn.counts site);
}

abbrev pub decreases-calls : goal.decreases-calls
decreases-calls l = length l.pending.items
