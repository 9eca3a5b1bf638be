use Rattle.std.proofs.Common.{◌≤◌, ◌-◌, length}
use Rattle.std.specs.Io.KnownBytes.{Consumes}
use Rattle.debug_session.specs.InputLines.{known_bytes}
use Rattle.debug_session.proofs.TakenLines.{Unended}
use Rattle.debug_session.proofs.input_lines.InputLines.read_line.Given as goal

-- What was read is in the line, with no line end in it.
abbrev pub invariant-bytes : goal.invariant-bytes
invariant-bytes g l = record {
  read : Consumes (known_bytes g.I.Read.remaining l.initial.self) (known_bytes g.I.Read.remaining l.self) l.line.items;
  unended : Unended l.line.items;
  short : length l.line.items ≤ 33554433;
}

abbrev pub decreases-bytes : goal.decreases-bytes
decreases-bytes g l = 33554433 - length l.line.items
