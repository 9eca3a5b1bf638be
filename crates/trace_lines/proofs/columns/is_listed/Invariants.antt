use Rattle.std.proofs.Common.{◌≡◌, length}
use Rattle.std.specs.List.{list_any}
use Rattle.trace_lines.specs.Columns.{fields_of, is_named}
use Rattle.trace_lines.proofs.columns.is_listed.Given as goal

abbrev pub invariant-words : goal.invariant-words
invariant-words l = list_any (λ word. is_named word l.text) (fields_of 44 l.rest) ≡ list_any (λ word. is_named word l.text) (fields_of 44 l.list)

abbrev pub decreases-words : goal.decreases-words
decreases-words l = length l.rest
