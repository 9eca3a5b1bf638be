use Rattle.std.proofs.Common.{length}
use Rattle.guest_strings.specs.ToCome.{to_come}
use Rattle.policies_cli.specs.Traces.{rows_behind}
use Rattle.policies_cli.proofs.Writing.{Goes}
use Rattle.policies_cli.proofs.trace_command.write_rows.Given as goal

abbrev pub invariant-references : goal.invariant-references
invariant-references g l = Goes (g.W.Write.contents l.initial.out) (g.W.Write.contents l.out) (rows_behind l.time (to_come l.guests)) (rows_behind 0 (to_come l.initial.guests))

abbrev pub decreases-references : goal.decreases-references
decreases-references g l = length (to_come l.guests)
