use Rattle.miss_counts.proofs.RowLaws.{skips}
use Rattle.miss_counts.proofs.rows.skip_row.Goals as goal

pub returns : goal.returns
returns c = skips c.args.row.now c.forget.new.self c.forget.ensures.frames c.forget.ensures.references c.forget.ensures.players
