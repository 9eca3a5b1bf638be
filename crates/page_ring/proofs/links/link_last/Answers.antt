-- the new node stands before the first of a circle
use Rattle.page_ring.proofs.LinkLaws.{linked_at}
use Rattle.page_ring.proofs.links.link_last.Goals as goal

pub returns-clause-circle : goal.returns-clause-circle
returns-clause-circle c =
    linked_at c.args.nodes.now c.insert_reserved-at.new.self c.set_next.new.nodes c.set_previous.new.nodes c.index-first.result.now c.args.front c.insert_reserved-at.result c.args.entry c.index-first.ensures c.insert_reserved-at.ensures.was_vacant c.insert_reserved-at.ensures.updates.changed c.insert_reserved-at.ensures.updates.others c.set_next.ensures.changes c.set_previous.ensures.changes
