use Rattle.clock_ring.proofs.MoveLaws.{found_at}
use Rattle.clock_ring.proofs.StepLaws.{has_one_at, remove_step}
use Rattle.clock_ring.specs.BodyState.{state_of}
use Rattle.clock_ring.proofs.body.Body.remove.Goals as goal

pub node-next-requires : goal.node-next-requires
node-next-requires c = found_at c.args.self.now.ring.cells c.args.found.at c.args.found.entry c.requires

pub remove-requires : goal.remove-requires
remove-requires c = found_at c.args.self.now.ring.cells c.args.found.at c.args.found.entry c.requires

pub take-requires : goal.take-requires
take-requires c = has_one_at c.args.self.now.counts c.args.self.now.ring.cells c.args.found.at c.args.found.entry c.args.self.now.kept.counted c.requires

pub invariant_of-self-clause-kept : goal.invariant_of-self-clause-kept
invariant_of-self-clause-kept c =
    let b = c.args.self.now in
    (remove_step b.ring.cells c.remove.new.self.cells c.args.found.at c.args.found.entry c.node-next.result b.cold_hand b.test_hand c.after-self.result c.after-self-2.result b.counts c.take.new.self b.frames b.kept c.requires c.node-next.ensures c.remove.ensures.cells c.take.ensures c.after-self.ensures c.after-self-2.ensures).kept

pub returns-clause-moved : goal.returns-clause-moved
returns-clause-moved c =
    let b = c.args.self.now in
    (remove_step b.ring.cells c.remove.new.self.cells c.args.found.at c.args.found.entry c.node-next.result b.cold_hand b.test_hand c.after-self.result c.after-self-2.result b.counts c.take.new.self b.frames b.kept c.requires c.node-next.ensures c.remove.ensures.cells c.take.ensures c.after-self.ensures c.after-self-2.ensures).moved (state_of b)
