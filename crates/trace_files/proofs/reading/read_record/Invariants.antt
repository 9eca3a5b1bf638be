use Rattle.std.proofs.Common.{◌-◌, ◌≤◌, length}
use Rattle.std.specs.Io.KnownBytes.{Consumes}
use Rattle.trace_files.proofs.reading.read_record.Given as goal

-- What was read stands in the record.
abbrev pub invariant-bytes : goal.invariant-bytes
invariant-bytes g l = record {
  read : Consumes (g.B.Read.remaining l.initial.file) (g.B.Read.remaining l.file) l.bytes.items;
  few : length l.bytes.items ≤ 24;
}

abbrev pub decreases-bytes : goal.decreases-bytes
decreases-bytes g l = 24 - length l.bytes.items
