use Rattle.std.proofs.Common.{◌≡◌, ◌+◌, length, map}
use Rattle.machine_sides.specs.Reporting.{told}
use Rattle.report_text.proofs.Written.{Tells}
use Rattle.report_text.proofs.report_lines.write_processes.Given as goal

abbrev pub invariant-loop-process : goal.invariant-loop-process
invariant-loop-process g l = record {
  many : l.number + length l.rest ≡ length l.processes;
  tells : Tells (g.W.Write.contents l.fn.out) (g.W.Write.contents l.out) (map told l.processes) l.number (map told l.rest);
}

abbrev pub decreases-loop-process : goal.decreases-loop-process
decreases-loop-process g l = length l.rest
