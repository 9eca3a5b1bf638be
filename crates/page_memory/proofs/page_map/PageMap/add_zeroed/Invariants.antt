use Rattle.std.proofs.Common.{◌≡◌, ◌-◌}
use Rattle.page_memory.specs.Entries.{with_added}
use Rattle.page_memory.proofs.page_map.PageMap.add_zeroed.Given as goal

abbrev pub invariant-loop-number : goal.invariant-loop-number
invariant-loop-number g l = l.self ≡ with_added l.first (l.number - l.first) g.T.ZeroPage.zero_page l.fn.self
