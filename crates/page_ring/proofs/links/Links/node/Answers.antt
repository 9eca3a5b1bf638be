-- the cells tell what the node at a cell's key is
use Rattle.std.specs.Prelude.{◌≡◌, true, ◌∷◌, List}
use Rattle.std.proofs.Common.{sym, ap, subst}
use Rattle.page_ring.specs.Linked.{Cell, is_at}
use Rattle.page_ring.specs.Chain.{Chain, cells_of, Rotates}
use Rattle.page_ring.proofs.ChainLaws.{held_node, node_around}
use Rattle.page_ring.proofs.links.Links.node.Goals as goal

pub index-requires : goal.index-requires
index-requires c =
    let seen : c.args.self.now.cells ≡ cells_of c.self.inside.nodes c.self.inside.front = sym (ap (λ (l : Chain). l.cells) c.self.view_is) in
    let there : is_at (cells_of c.self.inside.nodes c.self.inside.front) c.args.at ≡ true = subst (λ (l : List Cell). is_at l c.args.at ≡ true) seen c.requires in
    held_node c.self.inside.nodes c.self.inside.front c.args.at (cells_of c.self.inside.nodes c.self.inside.front) c.self.invariant there

pub returns : goal.returns
returns c =
    let seen : c.args.self.now.cells ≡ cells_of c.self.inside.nodes c.self.inside.front = sym (ap (λ (l : Chain). l.cells) c.self.view_is) in
    λ d ds around is. node_around c.self.inside.nodes c.self.inside.front c.args.at c.index.result.now c.self.invariant c.index.ensures d ds (subst (λ (l : List Cell). Rotates l (d ∷ ds)) seen around) is
