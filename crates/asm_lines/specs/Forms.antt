-- A line by its form, as a plain value.
use Rattle.std.specs.Prelude.{ℕ, List, Option}
use Rattle.asm_lines.specs.declared.operand.Operand.{Operand}
use Rattle.asm_lines.specs.declared.source_line.SourceLine.{SourceLine as LineCode}

-- a line by its form
pub record SourceLine : Type 0 where
  pub labels : List (List ℕ)
  pub name : Option (List ℕ)
  pub operands : List Operand

abbrev pub line_value : LineCode → SourceLine
line_value line = record { labels = line.labels.items; name = line.name; operands = line.operands.items }
