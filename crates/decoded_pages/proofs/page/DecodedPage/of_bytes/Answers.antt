use Rattle.std.proofs.Common.{◌≡◌, ◌≤◌, ◌+◌, ◌∙◌, ◌∷◌, [], length, ap, sym, subst, arith}
use Rattle.std.proofs.lemmas.List.{length-append}
use Rattle.decoded_pages.specs.Stands.{Stands}
use Rattle.decoded_pages.specs.Lines.{LinesFrom}
use Rattle.decoded_pages.proofs.Listing.{StandBelow, one_more_stands, whole_page}
use Rattle.decoded_pages.proofs.page.DecodedPage.of_bytes.Goals as goal

pub loop-place-preserved : goal.loop-place-preserved
loop-place-preserved c =
    let l = c.loop-place in
    record {
      count = ap length c.push_reserved.ensures.items ∙ length-append l.instructions.items (c.of_word.result ∷ []) ∙ ap (λ n. n + 1) l.invariant.count;
      room = subst (λ n. 1025 ≤ n) (sym c.push_reserved.ensures.capacity) l.invariant.room;
      stand = one_more_stands l.place c.args.start c.args.bytes.now l.instructions.items c.push_reserved.new.self.items c.of_word.result l.invariant.count c.push_reserved.ensures.items l.invariant.stand
          (subst (λ word. Stands c.of_word.result c.args.start l.place word) c.number-word.ensures c.of_word.ensures);
    }

pub returns-clause-decoded : goal.returns-clause-decoded
returns-clause-decoded c = λ rights.
    let l = c.loop-place in
    let all : l.place ≡ 1024 = omega (arith, c.loop-place-test.false, l.auto.place-end) in
    whole_page (record { start = c.args.start; instructions = c.push_reserved-2.new.self; ends = c.in_ok-ends.ends }) c.args.bytes.now rights l.instructions.items c.page_end.result c.requires.page c.ranges.start.fits (l.invariant.count ∙ all)
    c.push_reserved-2.ensures.items (subst (λ n. StandBelow n c.args.start c.args.bytes.now l.instructions.items) all l.invariant.stand) c.page_end.ensures c.in_ok-ends.ensures.counted (subst (λ items. LinesFrom 0 items c.in_ok-ends.ends.items) c.as_slice.ensures.value c.in_ok-ends.ensures.lines)
