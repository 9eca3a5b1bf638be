-- the node and its neighbours are a circle's
use Rattle.page_ring.proofs.LinkLaws.{unlinked_at}
use Rattle.page_ring.proofs.links.unlink.Goals as goal

pub returns-clause-circle : goal.returns-clause-circle
returns-clause-circle c =
    unlinked_at c.args.nodes.now c.remove-node.new.self c.set_next.new.nodes c.set_previous.new.nodes c.remove-node.result c.args.at c.remove-node.ensures.value c.remove-node.ensures.updates.others c.set_next.ensures.changes c.set_previous.ensures.changes
