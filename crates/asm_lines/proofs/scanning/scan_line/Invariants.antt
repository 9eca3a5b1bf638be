use Rattle.std.proofs.Common.{◌≡◌, length}
use Rattle.std.specs.Option.{option_map}
use Rattle.asm_lines.specs.Lines.{labelled}
use Rattle.asm_lines.specs.Readings.{line_on}
use Rattle.asm_lines.proofs.scanning.scan_line.Given as goal

-- The labels so far, and the line that the rest makes, are the line of the text.
abbrev pub invariant-loop-name : goal.invariant-loop-name
invariant-loop-name l = option_map (labelled l.labels.items) (line_on l.rest) ≡ line_on l.text

abbrev pub decreases-loop-name : goal.decreases-loop-name
decreases-loop-name l = length l.rest
