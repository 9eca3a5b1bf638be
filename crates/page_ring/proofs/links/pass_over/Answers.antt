-- the node and its neighbours are a circle's
use Rattle.std.specs.Prelude.{refl}
use Rattle.page_ring.proofs.LinkLaws.{unlinked_at}
use Rattle.page_ring.proofs.links.pass_over.Goals as goal

pub returns-clause-circle : goal.returns-clause-circle
returns-clause-circle c =
    unlinked_at c.args.nodes.now c.args.nodes.now c.set_next.new.nodes c.set_previous.new.nodes c.index-node.result.now c.args.at c.index-node.ensures (λ k away. refl) c.set_next.ensures.changes c.set_previous.ensures.changes
