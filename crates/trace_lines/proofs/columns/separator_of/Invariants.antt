use Rattle.std.proofs.Common.{◌≡◌, false, length}
use Rattle.trace_lines.specs.Columns.{separator_from}
use Rattle.trace_lines.proofs.columns.separator_of.Given as goal

abbrev pub invariant-bytes : goal.invariant-bytes
invariant-bytes l = separator_from l.is_quoted l.rest ≡ separator_from false l.line

abbrev pub decreases-bytes : goal.decreases-bytes
decreases-bytes l = length l.rest
