use Rattle.std.proofs.Common.{◌≡◌, map, take}
use Rattle.run_picture.specs.Pictures.{bytes_in, output_by}
use Rattle.run_picture.proofs.output.outputs_of.Given as goal

abbrev pub invariant-processes : goal.invariant-processes
invariant-processes g l = map bytes_in l.outputs.items ≡ map output_by (take l.process-index l.processes)
