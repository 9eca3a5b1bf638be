use Rattle.std.proofs.Common.{◌≡◌, Some, take}
use Rattle.run_paths.specs.Paths.{along, steps_of, HasTurn}
use Rattle.run_paths.proofs.running.Place.go_along.Given as goal

-- The stretches before the next one led here.
abbrev pub invariant-stretches : goal.invariant-stretches
invariant-stretches l = record {
  led : along l.path (steps_of (take l.stretch-index l.path)) l.fn.self ≡ Some l.self;
  live : HasTurn l.self;
}
