use Rattle.std.proofs.Common.{◌∙◌, ◌-◌, ap, arith, length, length-append, max, refl}
use Rattle.std.specs.List.{range_with_len}
use Rattle.std.proofs.lemmas.List.FromFn.{length-range_with_len}
use Rattle.elf_image.proofs.TouchedRanges.{listed_more, listed_too_many, listed_all}
use Rattle.elf_image.proofs.touched.touched_pages.Goals as goal

pub returns-then-len-end-gt-MOST_PAGES-clause-refused : goal.returns-then-len-end-gt-MOST_PAGES-clause-refused
returns-then-len-end-gt-MOST_PAGES-clause-refused c _ =
    (refl, listed_too_many c.args.loaded.now c.requires.full c.requires.low c.requires.apart c.loop-segment.segment-index c.loop-segment.next c.max-first.result c.end_page-end.result c.loop-segment.touched.items _ c.loop-segment.invariant.so_far (omega arith) (c.max-first.ensures ∙ ap (λ n. max n c.loop-segment.next) c.first_page.ensures) c.end_page-end.ensures (omega arith))

pub loop-segment-preserved : goal.loop-segment-preserved
loop-segment-preserved c = record {
  so_far = listed_more c.args.loaded.now c.requires.full c.requires.low c.requires.apart c.loop-segment.segment-index c.loop-segment.next c.max-first.result c.end_page-end.result c.loop-segment.touched.items c.push_range.new.numbers.items _ c.loop-segment.invariant.so_far (omega arith) (c.max-first.ensures ∙ ap (λ n. max n c.loop-segment.next) c.first_page.ensures) c.end_page-end.ensures c.in_ok-push_range.ensures;
  few =
      let count = ap length c.in_ok-push_range.ensures ∙ length-append c.loop-segment.touched.items (range_with_len c.max-first.result (c.end_page-end.result - c.max-first.result)) in
      omega (arith, count, length-range_with_len c.max-first.result (c.end_page-end.result - c.max-first.result));
}

pub returns-clause-pages : goal.returns-clause-pages
returns-clause-pages c = listed_all c.args.loaded.now c.requires.full c.requires.low c.requires.apart c.loop-segment.segment-index c.loop-segment.next c.loop-segment.touched.items c.loop-segment.invariant.so_far (omega arith)
