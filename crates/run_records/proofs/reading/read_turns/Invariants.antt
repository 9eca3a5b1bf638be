use Rattle.std.proofs.Common.{length}
use Rattle.text_lines.specs.Text.{lines_of}
use Rattle.run_records.proofs.Turning.{ReadsTurns}
use Rattle.run_records.proofs.reading.read_turns.Given as goal

-- The turns that were read come first.
abbrev pub invariant-lines : goal.invariant-lines
invariant-lines l = ReadsTurns (lines_of l.fn.text) l.turns.items (lines_of l.rest)

abbrev pub decreases-lines : goal.decreases-lines
decreases-lines l = length l.rest
