use Rattle.miss_counts.proofs.RowLaws.{plays}
use Rattle.miss_counts.proofs.rows.play_row.Goals as goal

pub returns : goal.returns
returns c = plays c.args.references.now c.args.row.now c.play.new.self c.in_ok-play.ensures.frames c.in_ok-play.ensures.references c.in_ok-play.ensures.players
