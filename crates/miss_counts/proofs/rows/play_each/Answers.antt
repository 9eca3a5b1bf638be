use Rattle.miss_counts.proofs.ZippedLaws.{below_none, below_more, below_lent}
use Rattle.miss_counts.proofs.rows.play_each.Goals as goal

pub rows-init : goal.rows-init
rows-init c = below_none _ c.deref_mut-row-items.result.now

pub rows-preserved : goal.rows-preserved
rows-preserved c = below_more _ c.rows.row-index _ c.rows.row-items c.row-item.result _ c.rows-test.true c.rows.invariant c.in_ok-play_row.ensures

pub returns : goal.returns
returns c = below_lent _ c.rows.row-index c.args.rows.now.len c.args.rows.now.items _ c.rows.row-items c.deref_mut-row-items.ensures.value c.args.rows.now.ok.0 c.rows-test.false c.rows.invariant
