use Rattle.std.proofs.Common.{◌+◌, ◌≤◌, length}
use Rattle.text_lines.specs.Text.{lines_of}
use Rattle.event_scripts.proofs.Passed.{HavePassed}
use Rattle.event_scripts.proofs.drive_script.read_drive_script.Given as goal

-- A text has no more lines than bytes.
abbrev pub invariant-loop-line : goal.invariant-loop-line
invariant-loop-line l = HavePassed (lines_of l.text) (lines_of l.rest) l.events.items l.number
    × (l.number + length l.rest ≤ length l.text)

abbrev pub decreases-loop-line : goal.decreases-loop-line
decreases-loop-line l = length l.rest
