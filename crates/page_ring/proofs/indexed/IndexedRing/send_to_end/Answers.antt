-- the pages stay in their nodes
use Rattle.std.specs.Prelude.{◌≡◌, true, List}
use Rattle.std.proofs.Common.{sym, subst}
use Rattle.page_ring.specs.Linked.{Cell, is_at}
use Rattle.page_ring.specs.Chain.{Chain}
use Rattle.page_ring.proofs.ChainLaws.{Split, split}
use Rattle.page_ring.specs.Index.{FindsNodes, node_of}
use Rattle.page_ring.proofs.IndexLaws.{index_send}
use Rattle.page_ring.proofs.indexed.IndexedRing.send_to_end.Goals as goal

pub invariant_of-self : goal.invariant_of-self
invariant_of-self c = record {
  indexes = at_split (split c.self.inside.links.cells c.args.at (subst (λ (l : Chain). is_at l.cells c.args.at ≡ true) (sym c.self.view_is) c.requires));
  parted = c.self.invariant.parted;
}
  where
    at_split : Split c.self.inside.links.cells c.args.at → FindsNodes c.send_to_end.new.self.cells c.self.inside.lacks (λ k. node_of k c.self.inside.index)
    at_split e = subst (λ (l : List Cell). FindsNodes l c.self.inside.lacks (λ k. node_of k c.self.inside.index)) (sym (c.send_to_end.ensures.cells e.before e.behind e.cell e.parts e.is)) (index_send c.self.inside.lacks (λ k. node_of k c.self.inside.index) c.args.kind e.before e.behind e.cell (subst (λ (l : List Cell). FindsNodes l c.self.inside.lacks (λ k. node_of k c.self.inside.index)) e.parts c.self.invariant.indexes))
