use Rattle.std.proofs.Common.{◌∙◌, arith}
use Rattle.guest_history.proofs.Filled.{clear_more}
use Rattle.guest_history.proofs.points.give_points.Goals as goal

pub numbers-preserved : goal.numbers-preserved
numbers-preserved c = record {
  cleared = clear_more c.args.points.now c.numbers.debugger.points c.clear.new.debugger.points c.numbers.number (let within = c.numbers-test.true in let long = c.told-points in omega (arith, within, long)) c.numbers.invariant.cleared c.in-Ok.ensures.cleared;
  target = c.in-Ok.ensures.target ∙ c.numbers.invariant.target;
  turn = c.in-Ok.ensures.turn ∙ c.numbers.invariant.turn;
}
