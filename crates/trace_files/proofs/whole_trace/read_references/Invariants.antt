use Rattle.std.proofs.Common.{◌≡◌}
use Rattle.trace_files.specs.ReferenceAnswers.{TellsReferences, name_of, to_come}
use Rattle.trace_files.proofs.whole_trace.read_references.Given as goal

-- The string has the references that were told.
abbrev pub invariant-fills : goal.invariant-fills
invariant-fills g l = record {
  told : TellsReferences l.string.items (to_come g.B.Read.remaining l.initial.trace) (to_come g.B.Read.remaining l.trace);
  kept : name_of l.trace ≡ name_of l.initial.trace;
}
