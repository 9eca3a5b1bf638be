use Rattle.std.proofs.Common.{◌≡◌, map, take}
use Rattle.run_picture.specs.Processes.{process_by, process_seen}
use Rattle.run_picture.proofs.shown_process.shown_processes.Given as goal

abbrev pub invariant-processes : goal.invariant-processes
invariant-processes g l = map process_seen l.shown.items ≡ map process_by (take l.process-index l.processes)
