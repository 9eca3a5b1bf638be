use Rattle.std.proofs.Common.{◌≡◌, ◌+◌, ◌-◌, ◌<◌, ◌∙◌, slice_index_or, ap, sym, subst, arith, length-set}
use Rattle.std.proofs.lemmas.List.{get_or-set_same}
use Rattle.decoded_pages.specs.declared.instruction.DecodedInstruction.{DecodedInstruction}
use Rattle.decoded_pages.specs.Classes.{class_of, EndsLine}
use Rattle.decoded_pages.specs.Lines.{LinesFrom}
use Rattle.decoded_pages.proofs.Listing.{one_more_line}
use Rattle.decoded_pages.proofs.page.line_ends.Goals as goal

pub loop-place-preserved : goal.loop-place-preserved
loop-place-preserved c =
    let l = c.loop-place in
    let decoded = c.index-instructions-place.result in
    let some = c.loop-place-test.true in
    let back : l.place - 1 + 1 ≡ l.place = omega (arith, some) in
    let small : l.place - 1 < 1024 = omega (arith, some, l.invariant.below) in
    record {
      below = omega (arith, l.invariant.below);
      from = c.line_end-end.ensures.from;
      small = omega (arith, c.line_end-end.ensures.within, l.invariant.small);
      counted = length-set l.ends.items (l.place - 1) c.line_end-end.result ∙ l.invariant.counted;
      first = sym (get_or-set_same l.ends.items (l.place - 1) c.line_end-end.result c.line_end-end.result (omega (arith, small, l.invariant.counted)));
      lines = one_more_line (l.place - 1) c.line_end-end.result l.end c.args.instructions.now l.ends.items decoded small l.invariant.counted c.index-instructions-place.is c.requires.whole
          (l.invariant.first ∙ ap (λ n. slice_index_or l.ends.items n l.end) (sym back))
          (subst (λ (i : DecodedInstruction). EndsLine (class_of i.operation) (l.place - 1) c.line_end-end.result l.end) (sym c.index-instructions-place.is) c.line_end-end.ensures.line)
          (subst (λ n. LinesFrom n c.args.instructions.now l.ends.items) (sym back) l.invariant.lines);
    }
