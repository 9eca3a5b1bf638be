use Rattle.std.proofs.Common.{◌≡◌, slice_get}
use Rattle.trace_lines.specs.Columns.{fields_of}
use Rattle.trace_lines.proofs.columns.field.Given as goal

abbrev pub invariant-columns : goal.invariant-columns
invariant-columns l = slice_get (fields_of l.separator l.rest) l.left ≡ slice_get (fields_of l.separator l.line) l.place

abbrev pub decreases-columns : goal.decreases-columns
decreases-columns l = l.left
