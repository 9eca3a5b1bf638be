use Rattle.miss_counts.specs.Replayed.{RowPlays}
use Rattle.miss_counts.proofs.ZippedLaws.{Below}
use Rattle.miss_counts.proofs.rows.play_each.Given as goal

abbrev pub invariant-rows : goal.invariant-rows
invariant-rows l = Below (RowPlays l.references) l.initial.row-items l.row-index l.row-items
