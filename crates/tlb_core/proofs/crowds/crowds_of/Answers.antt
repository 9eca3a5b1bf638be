use Rattle.tlb_core.proofs.CrowdLaws.{counted_more, counted_taken}
use Rattle.tlb_core.proofs.crowds.crowds_of.Goals as goal

pub come-requires : goal.come-requires
come-requires c = counted_taken c.loop-entry.crowds.counts c.args.entries.now c.loop-entry.entry-index _ c.requires c.loop-entry.invariant

pub loop-entry-preserved : goal.loop-entry-preserved
loop-entry-preserved c = counted_more c.loop-entry.crowds.counts c.args.entries.now c.loop-entry.entry-index _ c.come.new.self.counts c.loop-entry-test.true c.loop-entry.invariant c.come.ensures
