use Rattle.std.proofs.Common.{◌≡◌}
use Rattle.std.specs.Vec.Iter.{into_iter_items}
use Rattle.rv_asm.specs.FirstPass.{with_labels}
use Rattle.rv_asm.proofs.first_pass.with_labels.Given as goal

abbrev pub invariant-loop-name : goal.invariant-loop-name
invariant-loop-name l = record {
  ready : (goal.iterator-loop-name).can_next l.name-iterator;
  finite : (goal.iterator-loop-name).is_finite l.name-iterator;
  same : with_labels l.program (into_iter_items l.name-iterator) ≡ with_labels l.fn.program l.fn.labels.items;
}
