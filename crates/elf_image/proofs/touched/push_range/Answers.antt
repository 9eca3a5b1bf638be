use Rattle.std.proofs.Common.{◌∙◌, ◌-◌, ◌++◌, ◌∷◌, [], ap, arith, sym, append_assoc}
use Rattle.std.specs.List.{range_with_len}
use Rattle.elf_image.proofs.TouchedRanges.{range_more}
use Rattle.elf_image.proofs.touched.push_range.Goals as goal

pub loop-number-preserved : goal.loop-number-preserved
loop-number-preserved c =
    c.in_ok-push.ensures.items
    ∙ ap (λ l. l ++ c.loop-number.number ∷ []) c.loop-number.invariant
    ∙ append_assoc c.args.numbers.now.items (range_with_len c.args.first (c.loop-number.number - c.args.first)) (c.loop-number.number ∷ [])
    ∙ ap (λ l. c.args.numbers.now.items ++ l) (sym (range_more c.args.first c.loop-number.number (omega arith)))
