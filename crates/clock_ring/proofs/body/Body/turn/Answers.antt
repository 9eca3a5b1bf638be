use Rattle.clock_ring.proofs.StepLaws.{turn_step}
use Rattle.clock_ring.specs.BodyState.{state_of}
use Rattle.clock_ring.proofs.body.Body.turn.Goals as goal

pub invariant_of-self-clause-kept : goal.invariant_of-self-clause-kept
invariant_of-self-clause-kept c =
    let b = c.args.self.now in
    (turn_step b.ring.cells c.turn.new.self.cells b.cold_hand b.test_hand b.counts b.frames b.kept c.requires c.turn.ensures.cells c.turn.ensures.apart).kept

pub returns-clause-moved : goal.returns-clause-moved
returns-clause-moved c =
    let b = c.args.self.now in
    (turn_step b.ring.cells c.turn.new.self.cells b.cold_hand b.test_hand b.counts b.frames b.kept c.requires c.turn.ensures.cells c.turn.ensures.apart).moved (state_of b)
