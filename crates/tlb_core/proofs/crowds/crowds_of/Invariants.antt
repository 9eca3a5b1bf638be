use Rattle.std.proofs.Common.{take}
use Rattle.tlb_core.specs.Crowds.{Counts, pages_of}
use Rattle.tlb_core.proofs.crowds.crowds_of.Given as goal

abbrev pub invariant-loop-entry : goal.invariant-loop-entry
invariant-loop-entry l = Counts l.crowds.counts (pages_of (take l.entry-index l.entries))
