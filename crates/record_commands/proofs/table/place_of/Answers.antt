use Rattle.std.proofs.Common.{◌≡◌, true, false}
use Rattle.record_commands.specs.Rows.{AreUnlike}
use Rattle.record_commands.proofs.Places.{one_more_unlike}
use Rattle.record_commands.proofs.table.place_of.Goals as goal

pub rows-init : goal.rows-init
unfolding AreUnlike
rows-init c = tt

pub rows-preserved : goal.rows-preserved
rows-preserved c = one_more_unlike c.args.closing.now c.args.rows.now c.rows.place _ c.rows-test.true c.rows.invariant (λ like. let no : false ≡ true = c.if-is_like.ensures.1 like in cc)
