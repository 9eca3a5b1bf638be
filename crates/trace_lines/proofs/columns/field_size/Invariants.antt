use Rattle.std.proofs.Common.{◌≡◌, ◌+◌, false, length}
use Rattle.trace_lines.specs.Columns.{field_size}
use Rattle.trace_lines.proofs.columns.field_size.Given as goal

abbrev pub invariant-bytes : goal.invariant-bytes
invariant-bytes l = record {
  passed : field_size l.separator false l.line ≡ l.size + field_size l.separator l.is_quoted l.rest;
  inside : l.size + length l.rest ≡ length l.line;
}

abbrev pub decreases-bytes : goal.decreases-bytes
decreases-bytes l = length l.rest
