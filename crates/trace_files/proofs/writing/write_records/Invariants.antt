use Rattle.trace_files.proofs.WrittenLaws.{Writes}
use Rattle.trace_files.proofs.writing.write_records.Given as goal

abbrev pub invariant-places : goal.invariant-places
invariant-places g l = Writes (g.W.Write.contents l.initial.out) (g.W.Write.contents l.out) l.at l.string
