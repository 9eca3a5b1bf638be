use Rattle.std.proofs.Common.{arith}
use Rattle.run_paths.proofs.Along.{one_of_hart, some_of_hart}
use Rattle.run_paths.proofs.running.Place.go_alone.Goals as goal

pub loop-left-preserved-then-left-lt-FEW : goal.loop-left-preserved-then-left-lt-FEW
loop-left-preserved-then-left-lt-FEW c =
    let some = c.loop-left-test.true in
    record {
      way = one_of_hart c.args.hart c.args.count c.loop-left.left _ c.args.self.now c.loop-left.self c.step.new.self c.loop-left.invariant.way some (omega (arith, some)) c.in_ok-step.ensures.stepped;
      live = c.in_ok-step.ensures.live;
    }

pub loop-left-preserved : goal.loop-left-preserved
loop-left-preserved c =
    let many = c.if-left-lt-FEW.false in
    let least = c.min-piece.ensures in
    let same = c.from-left.ensures in
    record {
      way =
          some_of_hart c.args.hart c.args.count c.loop-left.left c.min-piece.result _ c.args.self.now c.loop-left.self c.go_piece.new.self c.loop-left.invariant.way (omega (arith, many, least)) (omega (arith, many, least, same))
          c.in_ok-go_piece.ensures.ran c.in_ok-go_piece.ensures.turn;
      live = c.in_ok-go_piece.ensures.live;
    }
