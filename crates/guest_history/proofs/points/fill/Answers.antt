use Rattle.std.proofs.Common.{◌∙◌}
use Rattle.guest_history.proofs.Filled.{fill_more}
use Rattle.guest_history.proofs.points.fill.Goals as goal

pub points-preserved : goal.points-preserved
points-preserved c = record {
  filled = fill_more c.args.points.now c.points.debugger.points c.add.new.debugger.points c.points.number c.in-Ok.field-0 c.points-test.true c.told-points c.points.invariant.filled c.in-Ok.ensures.lowest c.in-Ok.ensures.added;
  target = c.in-Ok.ensures.target ∙ c.points.invariant.target;
  turn = c.in-Ok.ensures.turn ∙ c.points.invariant.turn;
}
