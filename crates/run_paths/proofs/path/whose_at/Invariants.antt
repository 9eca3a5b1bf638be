use Rattle.std.proofs.Common.{◌≡◌, drop}
use Rattle.run_paths.specs.Paths.{whose_at}
use Rattle.run_paths.proofs.path.whose_at.Given as goal

-- The step is in none of the stretches before the next one.
abbrev pub invariant-stretches : goal.invariant-stretches
invariant-stretches l = whose_at (drop l.stretch-index l.path) l.left ≡ whose_at l.path l.before
