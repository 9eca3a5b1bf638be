-- the page comes into the index, or the index lacks it from then on
use Rattle.std.specs.Prelude.{◌≡◌, true, false, List, Result, Ok, Err, OnOk, OnErr, None}
use Rattle.std.specs.Result.{is_err}
use Rattle.std.proofs.Common.{sym, ◌∙◌, subst}
use Rattle.page_ring.specs.Linked.{Cell}
use Rattle.page_ring.specs.Chain.{Chain}
use Rattle.page_ring.specs.Index.{FindsNodes, at_of, node_of}
use Rattle.page_ring.proofs.IndexLaws.{index_append, index_lacking}
use Rattle.page_ring.proofs.indexed.IndexedRing.append.Goals as goal

took : {A E P : Type 0} (r : Result A E) → is_err r ≡ false → OnOk r P → P
took (Ok a) is h = h
took (Err e) is h = cc

refused : {A E P : Type 0} (r : Result A E) → is_err r ≡ true → OnErr r P → P
refused (Ok a) is h = cc
refused (Err e) is h = h

pub invariant_of-self : goal.invariant_of-self
invariant_of-self c =
    let new : at_of c.args.entry.key c.self.inside.links.cells ≡ None = subst (λ (l : Chain). at_of c.args.entry.key l.cells ≡ None) (sym c.self.view_is) c.requires.new in
    record {
      indexes = subst (λ (l : List Cell). FindsNodes l true (λ k. node_of k c.insert.new.self)) (sym c.append-at.ensures.cells)
          (index_lacking c.self.inside.lacks (λ k. node_of k c.self.inside.index) (λ k. node_of k c.insert.new.self) c.self.inside.links.cells (record { at = c.append-at.result; entry = c.args.entry }) new
          (refused c.insert.result (sym c.is_err.ensures.value ∙ c.if-is_err.true) c.insert.ensures.err) c.self.invariant.indexes);
      parted = c.insert.ensures.parted;
    }

pub invariant_of-self-else-is_err : goal.invariant_of-self-else-is_err
invariant_of-self-else-is_err c =
    let new : at_of c.args.entry.key c.self.inside.links.cells ≡ None = subst (λ (l : Chain). at_of c.args.entry.key l.cells ≡ None) (sym c.self.view_is) c.requires.new in
    record {
      indexes = subst (λ (l : List Cell). FindsNodes l c.self.inside.lacks (λ k. node_of k c.insert.new.self)) (sym c.append-at.ensures.cells)
          (index_append c.self.inside.lacks (λ k. node_of k c.self.inside.index) (λ k. node_of k c.insert.new.self) c.self.inside.links.cells (record { at = c.append-at.result; entry = c.args.entry }) new
          (took c.insert.result (sym c.is_err.ensures.value ∙ c.if-is_err.false) c.insert.ensures.put) c.self.invariant.indexes);
      parted = c.insert.ensures.parted;
    }
