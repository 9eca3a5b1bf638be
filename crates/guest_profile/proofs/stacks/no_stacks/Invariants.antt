use Rattle.std.proofs.Common.{◌≡◌, ◌-◌, ◌≤◌, length, map, replicate}
use Rattle.guest_profile.specs.Calls.{hart_calls, no_calls}
use Rattle.guest_profile.proofs.stacks.no_stacks.Given as goal

abbrev pub invariant-harts : goal.invariant-harts
invariant-harts l = record {
  few : length l.stacks.items ≤ 8;
  all : map hart_calls l.stacks.items ≡ replicate (length l.stacks.items) no_calls;
}

abbrev pub decreases-harts : goal.decreases-harts
decreases-harts l = 8 - length l.stacks.items
