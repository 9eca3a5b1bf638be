use Rattle.std.proofs.Common.{◌≡◌}
use Rattle.trace_files.specs.ReferenceAnswers.{TellsPages, name_of, to_come}
use Rattle.trace_files.proofs.whole_trace.read_whole.Given as goal

-- The string has the pages that were told.
abbrev pub invariant-fills : goal.invariant-fills
invariant-fills g l = record {
  told : TellsPages l.string.items (to_come g.B.Read.remaining l.initial.trace) (to_come g.B.Read.remaining l.trace);
  kept : name_of l.trace ≡ name_of l.initial.trace;
}
