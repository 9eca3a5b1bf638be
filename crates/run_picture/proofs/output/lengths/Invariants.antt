use Rattle.std.proofs.Common.{◌≡◌, map, take}
use Rattle.run_picture.specs.Pictures.{written_by}
use Rattle.run_picture.proofs.output.lengths.Given as goal

abbrev pub invariant-processes : goal.invariant-processes
invariant-processes g l = l.lengths.items ≡ map written_by (take l.process-index l.processes)
