-- the node stands before the first of a circle
use Rattle.page_ring.proofs.LinkLaws.{linked_again}
use Rattle.page_ring.proofs.links.link_again.Goals as goal

pub returns-clause-circle : goal.returns-clause-circle
returns-clause-circle c =
    linked_again c.args.nodes.now c.set_node.new.nodes c.set_next.new.nodes c.set_previous.new.nodes c.index.result.now c.args.front c.args.at c.args.entry c.index.ensures (c.set_node.ensures.set c.requires.at) c.set_node.ensures.others c.set_next.ensures.changes c.set_previous.ensures.changes
