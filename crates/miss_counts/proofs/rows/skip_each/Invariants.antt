use Rattle.miss_counts.specs.Replayed.{RowSkips}
use Rattle.miss_counts.proofs.ZippedLaws.{Below}
use Rattle.miss_counts.proofs.rows.skip_each.Given as goal

abbrev pub invariant-rows : goal.invariant-rows
invariant-rows l = Below RowSkips l.initial.row-items l.row-index l.row-items
