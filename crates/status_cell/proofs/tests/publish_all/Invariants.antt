use Rattle.std.proofs.Common.{◌≡◌, ◌*◌}
use Rattle.status_cell.proofs.tests.publish_all.Given as goal

abbrev pub invariant-loop-i : goal.invariant-loop-i
invariant-loop-i g l = record { steps : l.writer.last.steps ≡ l.i; output : l.writer.last.output ≡ 2 * l.i }
