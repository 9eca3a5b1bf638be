use Rattle.clock_ring.proofs.StepLaws.{few_counted, append_step, taken_none, taken_some}
use Rattle.clock_ring.specs.BodyState.{state_of}
use Rattle.clock_ring.proofs.body.Body.append.Goals as goal

pub put-requires : goal.put-requires
put-requires c = let b = c.args.self.now in few_counted b.ring.cells b.cold_hand b.test_hand b.frames b.counts b.most b.kept

pub invariant_of-self-clause-kept : goal.invariant_of-self-clause-kept
invariant_of-self-clause-kept c =
    let b = c.args.self.now in
    (append_step b.ring.cells c.append-at.new.self.cells c.append-at.result c.args.entry b.cold_hand b.test_hand c.append-at.result c.append-at.result b.counts c.put.new.self b.frames b.kept c.requires.room c.requires.new c.append-at.ensures.cells c.append-at.ensures.apart c.put.ensures (taken_none b.ring.cells c.append-at.result b.cold_hand c.len-empty.result c.len-empty.ensures.len c.if-empty.true) (taken_none b.ring.cells c.append-at.result b.test_hand c.len-empty.result c.len-empty.ensures.len c.if-empty.true)).kept

pub returns-then-empty : goal.returns-then-empty
returns-then-empty c =
    let b = c.args.self.now in
    record { moved = (append_step b.ring.cells c.append-at.new.self.cells c.append-at.result c.args.entry b.cold_hand b.test_hand c.append-at.result c.append-at.result b.counts c.put.new.self b.frames b.kept c.requires.room c.requires.new c.append-at.ensures.cells c.append-at.ensures.apart c.put.ensures (taken_none b.ring.cells c.append-at.result b.cold_hand c.len-empty.result c.len-empty.ensures.len c.if-empty.true) (taken_none b.ring.cells c.append-at.result b.test_hand c.len-empty.result c.len-empty.ensures.len c.if-empty.true)).moved (state_of b) }

pub invariant_of-self-else-empty-clause-kept : goal.invariant_of-self-else-empty-clause-kept
invariant_of-self-else-empty-clause-kept c =
    let b = c.args.self.now in
    (append_step b.ring.cells c.append-at.new.self.cells c.append-at.result c.args.entry b.cold_hand b.test_hand b.cold_hand b.test_hand b.counts c.put.new.self b.frames b.kept c.requires.room c.requires.new c.append-at.ensures.cells c.append-at.ensures.apart c.put.ensures (taken_some b.ring.cells c.append-at.result b.cold_hand c.len-empty.result c.len-empty.ensures.len c.if-empty.false) (taken_some b.ring.cells c.append-at.result b.test_hand c.len-empty.result c.len-empty.ensures.len c.if-empty.false)).kept

pub returns-else-empty : goal.returns-else-empty
returns-else-empty c =
    let b = c.args.self.now in
    record { moved = (append_step b.ring.cells c.append-at.new.self.cells c.append-at.result c.args.entry b.cold_hand b.test_hand b.cold_hand b.test_hand b.counts c.put.new.self b.frames b.kept c.requires.room c.requires.new c.append-at.ensures.cells c.append-at.ensures.apart c.put.ensures (taken_some b.ring.cells c.append-at.result b.cold_hand c.len-empty.result c.len-empty.ensures.len c.if-empty.false) (taken_some b.ring.cells c.append-at.result b.test_hand c.len-empty.result c.len-empty.ensures.len c.if-empty.false)).moved (state_of b) }
