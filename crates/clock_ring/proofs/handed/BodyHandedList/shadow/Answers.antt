use Rattle.clock_ring.proofs.MoveLaws.{found_at}
use Rattle.clock_ring.proofs.StepLaws.{has_one_at, few_less, shadow_step}
use Rattle.clock_ring.specs.BodyState.{state_of}
use Rattle.clock_ring.proofs.handed.BodyHandedList.shadow.Goals as goal

pub node-next-requires : goal.node-next-requires
node-next-requires c = found_at c.args.self.now.ring.cells c.args.found.at c.args.found.entry c.requires

pub mark-requires : goal.mark-requires
mark-requires c = found_at c.args.self.now.ring.cells c.args.found.at c.args.found.entry c.requires

pub take-requires : goal.take-requires
take-requires c = has_one_at c.args.self.now.counts c.args.self.now.ring.cells c.args.found.at c.args.found.entry c.args.self.now.kept.counted c.requires

pub put-requires : goal.put-requires
put-requires c = let b = c.args.self.now in few_less b.ring.cells b.cold_hand b.test_hand b.frames b.counts c.take.new.self c.args.found.entry.kind b.most b.kept c.take.ensures

pub invariant_of-self-clause-kept : goal.invariant_of-self-clause-kept
invariant_of-self-clause-kept c =
    let b = c.args.self.now in
    (shadow_step b.ring.cells c.mark.new.self.cells c.args.found.at c.args.found.entry c.node-next.result b.cold_hand b.test_hand b.counts c.take.new.self c.put.new.self b.frames b.kept c.requires c.node-next.ensures c.mark.ensures.cells c.mark.ensures.apart c.take.ensures c.put.ensures).kept

pub returns : goal.returns
returns c =
    let b = c.args.self.now in
    record { moved = (shadow_step b.ring.cells c.mark.new.self.cells c.args.found.at c.args.found.entry c.node-next.result b.cold_hand b.test_hand b.counts c.take.new.self c.put.new.self b.frames b.kept c.requires c.node-next.ensures c.mark.ensures.cells c.mark.ensures.apart c.take.ensures c.put.ensures).moved (state_of b) }
