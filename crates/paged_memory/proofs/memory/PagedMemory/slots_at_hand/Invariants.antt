use Rattle.std.proofs.Common.{◌≡◌, ◌≤◌, ◌-◌, ◌^◌}
use Rattle.paged_memory.proofs.HeldLaws.{slots_to}
use Rattle.paged_memory.proofs.memory.PagedMemory.slots_at_hand.Given as goal

abbrev pub invariant-pages : goal.invariant-pages
invariant-pages g l = record {
  counted : l.count ≡ slots_to l.self-inside.pages l.from;
  few : l.count ≤ l.from;
  small : l.from ≤ 2 ^ 20;
}

abbrev pub decreases-pages : goal.decreases-pages
decreases-pages g l = 2 ^ 20 - l.from
