use Rattle.std.proofs.Common.{◌≡◌, ◌+◌, ◌≤◌, length}
use Rattle.std.specs.List.{position_from}
use Rattle.trace_lines.specs.Columns.{field_text, fields_of, is_column}
use Rattle.trace_lines.proofs.columns.place_named.Given as goal

abbrev pub invariant-columns : goal.invariant-columns
invariant-columns l = record {
  found : position_from (λ name. is_column l.column (field_text name)) l.place (fields_of l.separator l.rest) ≡ position_from (λ name. is_column l.column (field_text name)) 0 (fields_of l.separator l.names);
  inside : l.place + length l.rest ≤ length l.names;
}

abbrev pub decreases-columns : goal.decreases-columns
decreases-columns l = length l.rest
