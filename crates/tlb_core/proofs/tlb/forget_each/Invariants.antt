use Rattle.std.proofs.Common.{drop}
use Rattle.tlb_core.specs.Ready.{IsReady}
use Rattle.tlb_core.proofs.tlb.forget_each.Given as goal

-- where what was ready is of the entries, what is ready is of those that are left
abbrev pub invariant-loop-entry : goal.invariant-loop-entry
invariant-loop-entry l = IsReady l.entries l.initial.ready → IsReady (drop l.entry-index l.entries) l.ready
