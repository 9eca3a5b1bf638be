use Rattle.std.proofs.Common.{◌+◌, ◌≤◌, length}
use Rattle.serial_commands.proofs.clock_command.play.Given as goal

-- A text has no more lines than bytes.
abbrev pub invariant-loop-line : goal.invariant-loop-line
invariant-loop-line g l = l.number + length l.rest ≤ length l.text

abbrev pub decreases-loop-line : goal.decreases-loop-line
decreases-loop-line g l = length l.rest
