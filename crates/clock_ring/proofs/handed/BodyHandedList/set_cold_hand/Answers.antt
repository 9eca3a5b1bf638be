use Rattle.clock_ring.proofs.StepLaws.{cold_set_step}
use Rattle.clock_ring.specs.BodyState.{state_of}
use Rattle.clock_ring.proofs.handed.BodyHandedList.set_cold_hand.Goals as goal

pub invariant_of-self-clause-kept : goal.invariant_of-self-clause-kept
invariant_of-self-clause-kept c =
    let b = c.args.self.now in
    (cold_set_step b.ring.cells c.args.found.at c.args.found.entry b.cold_hand b.test_hand b.counts b.frames b.kept c.requires).kept

pub returns-clause-moved : goal.returns-clause-moved
returns-clause-moved c =
    let b = c.args.self.now in
    (cold_set_step b.ring.cells c.args.found.at c.args.found.entry b.cold_hand b.test_hand b.counts b.frames b.kept c.requires).moved (state_of b)
