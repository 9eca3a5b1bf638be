use Rattle.std.proofs.Common.{◌+◌, drop, subst, sym}
use Rattle.std.proofs.lemmas.List.{drop_all}
use Rattle.tlb_core.specs.Ready.{IsReady}
use Rattle.tlb_core.proofs.ReadyLaws.{ready_next_gone}
use Rattle.tlb_core.proofs.tlb.forget_each.Goals as goal

pub loop-entry-preserved : goal.loop-entry-preserved
loop-entry-preserved c = λ was. subst (λ r. IsReady (drop (c.loop-entry.entry-index + 1) c.args.entries.now) r) (sym c.forget.ensures)
    (ready_next_gone c.args.entries.now c.loop-entry.entry-index _ c.loop-entry.ready c.loop-entry-test.true (c.loop-entry.invariant was))

pub returns : goal.returns
returns c = λ was. subst (λ l. IsReady l c.loop-entry.ready) (drop_all c.loop-entry.entry-index c.args.entries.now c.loop-entry-test.false) (c.loop-entry.invariant was)
