-- the front becomes the last
use Rattle.std.specs.Prelude.{◌≡◌, ◌≤◌, List, length}
use Rattle.std.proofs.Common.{sym, ap, ◌∙◌, subst}
use Rattle.page_ring.specs.Linked.{Cell}
use Rattle.page_ring.specs.Chain.{Chain, cells_of}
use Rattle.page_ring.proofs.ChainLaws.{Turned, turned_held, held_front, held_node}
use Rattle.page_ring.proofs.links.Links.turn.Goals as goal

pub index-requires : goal.index-requires
index-requires c =
    let seen : c.args.self.now.cells ≡ cells_of c.self.inside.nodes c.self.inside.front = sym (ap (λ (l : Chain). l.cells) c.self.view_is) in
    held_node c.self.inside.nodes c.self.inside.front c.self.inside.front (cells_of c.self.inside.nodes c.self.inside.front) c.self.invariant (held_front c.self.inside.nodes c.self.inside.front (cells_of c.self.inside.nodes c.self.inside.front) c.self.invariant (subst (λ (l : List Cell). 1 ≤ length l) seen c.requires))

pub invariant_of-self : goal.invariant_of-self
invariant_of-self c =
    let seen : c.args.self.now.cells ≡ cells_of c.self.inside.nodes c.self.inside.front = sym (ap (λ (l : Chain). l.cells) c.self.view_is) in
    let step : Turned c.self.inside.nodes c.self.inside.front c.index.result.now.next = turned_held c.self.inside.nodes c.self.inside.front c.index.result.now c.self.invariant (subst (λ (l : List Cell). 1 ≤ length l) seen c.requires) c.index.ensures in
    step.held

pub returns-clause-cells : goal.returns-clause-cells
returns-clause-cells c =
    let seen : c.args.self.now.cells ≡ cells_of c.self.inside.nodes c.self.inside.front = sym (ap (λ (l : Chain). l.cells) c.self.view_is) in
    let step : Turned c.self.inside.nodes c.self.inside.front c.index.result.now.next = turned_held c.self.inside.nodes c.self.inside.front c.index.result.now c.self.invariant (subst (λ (l : List Cell). 1 ≤ length l) seen c.requires) c.index.ensures in
    λ d ds parts. step.cells d ds (sym seen ∙ parts)

pub returns-clause-apart : goal.returns-clause-apart
returns-clause-apart c =
    let seen : c.args.self.now.cells ≡ cells_of c.self.inside.nodes c.self.inside.front = sym (ap (λ (l : Chain). l.cells) c.self.view_is) in
    let step : Turned c.self.inside.nodes c.self.inside.front c.index.result.now.next = turned_held c.self.inside.nodes c.self.inside.front c.index.result.now c.self.invariant (subst (λ (l : List Cell). 1 ≤ length l) seen c.requires) c.index.ensures in
    step.held.circle.apart
