use Rattle.std.proofs.Common.{◌≡◌, take}
use Rattle.run_paths.specs.Paths.{path_of}
use Rattle.run_paths.proofs.path.path_of.Given as goal

-- The turns before the next one are in the path.
abbrev pub invariant-turns : goal.invariant-turns
invariant-turns l = l.path.items ≡ path_of (take l.turn-index l.turns)
