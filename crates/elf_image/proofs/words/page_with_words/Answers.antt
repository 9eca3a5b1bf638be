use Rattle.std.proofs.Common.{◌∙◌, ap, arith, refl}
use Rattle.page_memory.specs.Pages.{Page}
use Rattle.elf_image.proofs.WordPages.{word_written, words_written}
use Rattle.elf_image.proofs.words.page_with_words.Goals as goal

pub loop-word-init : goal.loop-word-init
loop-word-init c = record {
  at = refl;
  rights = ap (λ (p : Page). p.rights) c.in_ok-page.ensures;
  bytes = ap (λ (p : Page). p.bytes) c.in_ok-page.ensures;
}

pub loop-word-preserved : goal.loop-word-preserved
loop-word-preserved c = record {
  at = omega arith;
  rights = ap (λ (p : Page). p.rights) c.put_number.ensures ∙ c.loop-word.invariant.rights;
  bytes = ap (λ (p : Page). p.bytes) c.put_number.ensures ∙ word_written _ _ _ _ c.loop-word.invariant.at (omega arith) c.requires c.loop-word.invariant.bytes;
}

pub returns : goal.returns
returns c = c.in_ok-new.ensures ∙ (λ i. record {
  rights = c.loop-word.invariant.rights i;
  bytes = words_written c.args.words.now c.loop-word.page.bytes c.loop-word.word-index (omega arith) (omega arith) c.loop-word.invariant.bytes i;
})
