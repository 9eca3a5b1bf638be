use Rattle.std.proofs.Common.{◌≡◌, map}
use Rattle.std.specs.Vec.Iter.{into_iter_items}
use Rattle.rv_asm.specs.FirstPass.{with_items}
use Rattle.rv_asm.specs.declared.item.Item.TheVariants.{InData}
use Rattle.rv_asm.proofs.first_pass.with_data.Given as goal

abbrev pub invariant-loop-datum : goal.invariant-loop-datum
invariant-loop-datum l = record {
  ready : (goal.iterator-loop-datum).can_next l.datum-iterator;
  finite : (goal.iterator-loop-datum).is_finite l.datum-iterator;
  same : with_items l.program (map (InData l.line) (into_iter_items l.datum-iterator)) ≡ with_items l.fn.program (map (InData l.line) l.fn.parts.items);
}
