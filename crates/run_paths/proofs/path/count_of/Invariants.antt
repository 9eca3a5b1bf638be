use Rattle.std.proofs.Common.{◌≡◌, take}
use Rattle.run_paths.specs.Paths.{steps_of}
use Rattle.run_paths.proofs.path.count_of.Given as goal

-- The steps of the stretches before the next one are counted.
abbrev pub invariant-stretches : goal.invariant-stretches
invariant-stretches l = l.count ≡ steps_of (take l.stretch-index l.path)
