use Rattle.std.proofs.Common.{◌≡◌, ◌++◌, map, take}
use Rattle.trace_files.specs.ReferenceAnswers.{page_of}
use Rattle.trace_files.proofs.whole_trace.add_pages_of.Given as goal

abbrev pub invariant-references : goal.invariant-references
invariant-references l = l.string.items ≡ l.initial.string.items ++ map page_of (take l.reference-index l.references)
