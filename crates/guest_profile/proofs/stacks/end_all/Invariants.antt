use Rattle.std.proofs.Common.{◌≡◌, drop, length, map, take}
use Rattle.guest_profile.specs.declared.call_site.CallSite.{CallSite}
use Rattle.guest_profile.specs.Calls.{all_ended, calls_of, hart_calls, none_pending}
use Rattle.guest_profile.proofs.stacks.end_all.Given as goal

abbrev pub invariant-harts : goal.invariant-harts
invariant-harts l = record {
  size : length l.stacks.items ≡ length l.fn.stacks.items;
  front : take l.place (map hart_calls l.stacks.items) ≡ map none_pending (take l.place (map hart_calls l.fn.stacks.items));
  rest : drop l.place (map hart_calls l.stacks.items) ≡ drop l.place (map hart_calls l.fn.stacks.items);
  counted : (site : CallSite) → calls_of l.counts site ≡ all_ended (take l.place (map hart_calls l.fn.stacks.items)) site (calls_of l.fn.counts site);
}
