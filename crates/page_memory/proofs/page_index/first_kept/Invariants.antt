use Rattle.std.proofs.Common.{◌≤◌, ◌-◌, ◌^◌}
use Rattle.page_memory.specs.PageIndex.{KeepsNone}
use Rattle.page_memory.proofs.page_index.first_kept.Given as goal

abbrev pub invariant-loop-page : goal.invariant-loop-page
invariant-loop-page l = record {
  behind : l.from ≤ l.page;
  none : KeepsNone l.directory l.from l.page;
}

abbrev pub decreases-loop-page : goal.decreases-loop-page
decreases-loop-page l = 2 ^ 20 - l.page
