use Rattle.std.proofs.Common.{length}
use Rattle.guest_strings.specs.ToCome.{to_come}
use Rattle.std.specs.List.{flat_map}
use Rattle.trace_files.specs.Written.{reference_line}
use Rattle.policies_cli.proofs.Writing.{Goes}
use Rattle.policies_cli.proofs.trace_command.write_text.Given as goal

abbrev pub invariant-references : goal.invariant-references
invariant-references g l = Goes (g.W.Write.contents l.initial.out) (g.W.Write.contents l.out) (flat_map reference_line (to_come l.guests)) (flat_map reference_line (to_come l.initial.guests))

abbrev pub decreases-references : goal.decreases-references
decreases-references g l = length (to_come l.guests)
