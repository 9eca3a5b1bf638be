use Rattle.std.proofs.Common.{◌∙◌, ap, arith, length}
use Rattle.std.proofs.lemmas.Bool.Decides.{nat_tests}
use Rattle.elf_image.specs.Image.{image_of_words}
use Rattle.elf_image.proofs.WordPages.{lawful_words}
use Rattle.elf_image.proofs.image.Image.from_words.Goals as goal

pub new-requires : goal.new-requires
new-requires c = lawful_words c.args.words.now _ (λ none. let empty = ap length none in grind (arith, nat_tests)) (omega arith) c.in_ok-pages.ensures

pub returns-clause-image : goal.returns-clause-image
unfolding image_of_words
returns-clause-image c = c.new.ensures ∙ (λ i. record { entry = 65536; pages = c.in_ok-pages.ensures i })
