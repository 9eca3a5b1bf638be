use Rattle.std.proofs.Common.{◌≡◌}
use Rattle.tlb_core.proofs.Places.{marked_below}
use Rattle.tlb_core.proofs.entries.mark.Given as goal

-- the entries so far are marked where they are the page's
abbrev pub invariant-loop-entry : goal.invariant-loop-entry
invariant-loop-entry l = l.entries ≡ marked_below l.page l.initial.entries l.entry-index
