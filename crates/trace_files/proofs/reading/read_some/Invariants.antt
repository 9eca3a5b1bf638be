use Rattle.std.specs.Io.KnownBytes.{Keeps}
use Rattle.trace_files.proofs.reading.read_some.Given as goal

-- A read that was interrupted took nothing.
abbrev pub invariant-tries : goal.invariant-tries
invariant-tries g l = Keeps (g.B.Read.remaining l.initial.file) (g.B.Read.remaining l.file)
