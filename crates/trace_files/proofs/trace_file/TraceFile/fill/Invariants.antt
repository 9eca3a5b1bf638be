use Rattle.std.proofs.Common.{◌≡◌, ◌≤◌, length}
use Rattle.trace_files.specs.ReferenceAnswers.{TellsReferences, name_of, to_come}
use Rattle.trace_files.proofs.trace_file.TraceFile.fill.Given as goal

-- Each turn told a reference, or more.
abbrev pub invariant-references : goal.invariant-references
invariant-references g l = record {
  enough : l.counter ≤ length l.block.items;
  few : length l.block.items ≤ l.most;
  kept : name_of l.self ≡ name_of l.initial.self;
  told : TellsReferences l.block.items (to_come g.B.Read.remaining l.initial.self) (to_come g.B.Read.remaining l.self);
}
