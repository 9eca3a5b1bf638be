use Rattle.clock_ring.proofs.StepLaws.{rests_on, none_on, node_key}
use Rattle.clock_ring.proofs.body.Body.key_at.Goals as goal

pub node-requires : goal.node-requires
node-requires c = rests_on c.args.self.now.ring.cells c.args.hand c.len.result c.requires c.len.ensures.len c.if-len-eq0.false

pub returns-then-len-eq0 : goal.returns-then-len-eq0
returns-then-len-eq0 c = none_on c.args.self.now.ring.cells c.args.hand c.len.result c.len.ensures.len c.if-len-eq0.true

pub returns : goal.returns
returns c =
    node_key c.args.self.now.ring.cells c.args.hand c.node.result (rests_on c.args.self.now.ring.cells c.args.hand c.len.result c.requires c.len.ensures.len c.if-len-eq0.false) c.node.ensures
