use Rattle.std.proofs.Common.{subst}
use Rattle.miss_counts.specs.Replayed.{RowTells}
use Rattle.miss_counts.specs.declared.row.Row.{Row}
use Rattle.miss_counts.proofs.ZippedLaws.{zip_more}
use Rattle.miss_counts.proofs.rows.counts_of_each.Goals as goal

pub rows-preserved : goal.rows-preserved
rows-preserved c = zip_more RowTells c.rows.at c.args.rows.now c.index-rows-at.result c.rows.counts.items c.push.new.self.items c.in_ok-counts_of_row.field-0 c.rows-test.true c.rows.invariant
    (subst (λ (row : Row). RowTells row c.in_ok-counts_of_row.field-0) c.index-rows-at.is c.in_ok-counts_of_row.ensures) c.in_ok-push.ensures.items
