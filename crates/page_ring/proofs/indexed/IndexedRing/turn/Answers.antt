-- the pages stay in their nodes
use Rattle.std.specs.Prelude.{◌≡◌, ◌≤◌, [], ◌∷◌, List, length, refl}
use Rattle.std.proofs.Common.{arith, sym, subst}
use Rattle.page_ring.specs.Linked.{Cell}
use Rattle.page_ring.specs.Chain.{Chain}
use Rattle.page_ring.specs.Index.{FindsNodes, node_of}
use Rattle.page_ring.proofs.IndexLaws.{index_turn}
use Rattle.page_ring.proofs.indexed.IndexedRing.turn.Goals as goal

pub invariant_of-self : goal.invariant_of-self
invariant_of-self c = record {
  indexes = at_front c.self.inside.links.cells refl (subst (λ (l : Chain). 1 ≤ length l.cells) (sym c.self.view_is) c.requires);
  parted = c.self.invariant.parted;
}
  where
    at_front : (l : List Cell) → c.self.inside.links.cells ≡ l → 1 ≤ length l → FindsNodes c.turn.new.self.cells c.self.inside.lacks (λ k. node_of k c.self.inside.index)
    at_front [] is few = absurd (omega (arith, few))
    at_front (d ∷ ds) is few = subst (λ (l : List Cell). FindsNodes l c.self.inside.lacks (λ k. node_of k c.self.inside.index)) (sym (c.turn.ensures.cells d ds is)) (index_turn c.self.inside.lacks (λ k. node_of k c.self.inside.index) (d ∷ []) ds (subst (λ (l : List Cell). FindsNodes l c.self.inside.lacks (λ k. node_of k c.self.inside.index)) is c.self.invariant.indexes))
