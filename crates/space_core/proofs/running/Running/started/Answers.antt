use Rattle.std.proofs.Common.{[], arith}
use Rattle.std.specs.FinMap.{from_entries}
use Rattle.page_memory.specs.Memory.{unreserved}
use Rattle.space_core.proofs.running.Running.started.Goals as goal

pub returns-clause-few : goal.returns-clause-few
returns-clause-few c = let whole = c.self.invariant.whole (unreserved (from_entries [])) in let marked = whole.marked in let few = whole.few in omega (arith, marked, few, c.len.ensures)
