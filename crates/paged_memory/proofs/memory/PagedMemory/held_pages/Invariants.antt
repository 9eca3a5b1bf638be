use Rattle.std.proofs.Common.{◌≡◌, ◌≤◌, ◌-◌, ◌^◌}
use Rattle.paged_memory.proofs.HeldLaws.{residents_to, frames_to}
use Rattle.paged_memory.proofs.memory.PagedMemory.held_pages.Given as goal

abbrev pub invariant-pages : goal.invariant-pages
invariant-pages g l = record {
  resident : l.held.resident ≡ residents_to l.self-inside.pages l.from;
  framed : l.held.framed ≡ frames_to l.self-inside.pages l.from;
  few_resident : l.held.resident ≤ l.from;
  few_framed : l.held.framed ≤ l.from;
  small : l.from ≤ 2 ^ 20;
}

abbrev pub decreases-pages : goal.decreases-pages
decreases-pages g l = 2 ^ 20 - l.from
