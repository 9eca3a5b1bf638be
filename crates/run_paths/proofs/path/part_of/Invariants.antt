use Rattle.std.proofs.Common.{◌≡◌, ◌++◌, drop}
use Rattle.run_paths.specs.Paths.{part_of}
use Rattle.run_paths.proofs.path.part_of.Given as goal

-- What is taken of the stretches before the next one stands before what is still to be taken.
abbrev pub invariant-stretches : goal.invariant-stretches
invariant-stretches l = l.part.items ++ part_of (drop l.stretch-index l.path) l.before l.left ≡ part_of l.path l.fn.before l.count
