use Rattle.run_paths.specs.Paths.{HasTurn}
use Rattle.run_paths.proofs.Along.{IsOnWay}
use Rattle.run_paths.proofs.running.Place.go_alone.Given as goal

-- All steps but those that are left were taken.
abbrev pub invariant-loop-left : goal.invariant-loop-left
invariant-loop-left l = record {
  way : IsOnWay l.hart l.count l.left l.fn.self l.self;
  live : HasTurn l.self;
}

abbrev pub decreases-loop-left : goal.decreases-loop-left
decreases-loop-left l = l.left
