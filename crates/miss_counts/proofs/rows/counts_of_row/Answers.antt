use Rattle.miss_counts.proofs.RowLaws.{tells}
use Rattle.miss_counts.proofs.rows.counts_of_row.Goals as goal

pub returns : goal.returns
returns c = tells c.args.row.now c.in_ok-counts.counts c.in_ok-counts.ensures.frames c.in_ok-counts.ensures.references c.in_ok-counts.ensures.counts c.in_ok-counts.ensures.optimum
