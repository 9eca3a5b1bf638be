use Rattle.std.proofs.Common.{◌∙◌, ◌++◌, ◌∷◌, [], arith, sym}
use Rattle.std.proofs.lemmas.List.FromFn.{map-range_with_len_more}
use Rattle.elf_image.specs.Image.{word_page}
use Rattle.elf_image.proofs.words.pages_of_words.Goals as goal

pub loop-place-preserved : goal.loop-place-preserved
loop-place-preserved c =
    c.in_ok-push.ensures.items
    ∙ (λ i. c.loop-place.invariant i ++ c.in_ok-page_of_words.ensures i ∷ [])
    ∙ sym (map-range_with_len_more (word_page c.args.words.now) 0 c.loop-place.place c.loop-place.place (omega arith))
