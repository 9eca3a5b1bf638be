use Rattle.std.proofs.Common.{◌≡◌, map}
use Rattle.std.specs.Vec.Iter.{into_iter_items}
use Rattle.rv_asm.specs.FirstPass.{with_items}
use Rattle.rv_asm.specs.declared.item.Item.TheVariants.{InText}
use Rattle.rv_asm.proofs.first_pass.with_text.Given as goal

abbrev pub invariant-loop-code : goal.invariant-loop-code
invariant-loop-code l = record {
  ready : (goal.iterator-loop-code).can_next l.code-iterator;
  finite : (goal.iterator-loop-code).is_finite l.code-iterator;
  same : with_items l.program (map (InText l.line) (into_iter_items l.code-iterator)) ≡ with_items l.fn.program (map (InText l.line) l.fn.parts.items);
}
