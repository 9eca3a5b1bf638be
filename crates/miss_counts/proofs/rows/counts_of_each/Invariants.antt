use Rattle.std.proofs.Common.{take}
use Rattle.std.specs.List.{AllZip}
use Rattle.miss_counts.specs.Replayed.{RowTells}
use Rattle.miss_counts.proofs.rows.counts_of_each.Given as goal

abbrev pub invariant-rows : goal.invariant-rows
invariant-rows l = AllZip RowTells (take l.at l.rows) l.counts.items
