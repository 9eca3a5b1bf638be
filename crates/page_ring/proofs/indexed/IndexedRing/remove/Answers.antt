-- the page goes from the index
use Rattle.std.specs.Prelude.{◌≡◌, ◌++◌, true, List, cond, None}
use Rattle.std.proofs.Common.{sym, ap, ◌∙◌, subst}
use Rattle.page_ring.specs.declared.links.Node.{Node}
use Rattle.page_ring.specs.Linked.{Cell, is_at, first_at, last_at}
use Rattle.page_ring.specs.Chain.{Chain}
use Rattle.page_ring.proofs.ChainLaws.{Split, split, rotates_split}
use Rattle.page_ring.specs.Slots.{same_key}
use Rattle.page_ring.specs.Index.{FindsNodes, node_of}
use Rattle.page_ring.proofs.IndexLaws.{index_remove}
use Rattle.page_ring.proofs.indexed.IndexedRing.remove.Goals as goal

pub invariant_of-self : goal.invariant_of-self
invariant_of-self c = record {
  indexes = at_split (split c.self.inside.links.cells c.args.at (subst (λ (l : Chain). is_at l.cells c.args.at ≡ true) (sym c.self.view_is) c.requires));
  parted = c.remove-2.ensures.parted;
}
  where
    at_split : Split c.self.inside.links.cells c.args.at → FindsNodes c.remove.new.self.cells c.self.inside.lacks (λ k. node_of k c.remove-2.new.self)
    at_split e =
        let node : c.node.result ≡ record { entry = e.cell.entry; next = first_at (e.behind ++ e.before) c.args.at; previous = last_at c.args.at (e.behind ++ e.before) } =
        c.node.ensures e.cell (e.behind ++ e.before) (rotates_split c.self.inside.links.cells e.before e.behind e.cell e.parts) e.is in
        subst (λ (l : List Cell). FindsNodes l c.self.inside.lacks (λ k. node_of k c.remove-2.new.self)) (sym (c.remove.ensures.cells e.before e.behind e.cell e.parts e.is))
        (index_remove c.self.inside.lacks (λ k. node_of k c.self.inside.index) (λ k. node_of k c.remove-2.new.self) e.before e.behind e.cell (λ k. c.remove-2.ensures.taken k ∙ ap (λ (n : Node). cond (same_key n.entry.key k) None (node_of k c.self.inside.index)) node) (subst (λ (l : List Cell). FindsNodes l c.self.inside.lacks (λ k. node_of k c.self.inside.index)) e.parts c.self.invariant.indexes))
