use Rattle.std.proofs.Common.{arith, sym, ◌∙◌, ap, slice_set}
use Rattle.std.proofs.lemmas.List.Edits.{map_over_more}
use Rattle.elf_image.specs.Parts.{readable_page}
use Rattle.elf_image.proofs.parts.make_readable.Goals as goal

pub loop-listed-preserved : goal.loop-listed-preserved
loop-listed-preserved c =
    ap (λ page. slice_set c.loop-listed.pages c.loop-listed.listed-index page) (c.let_read.ensures ∙ ap readable_page (sym c.listed-item.is))
    ∙ map_over_more readable_page c.args.pages.now c.loop-listed.pages c.loop-listed.listed-index c.listed-item.result (omega arith) c.loop-listed.invariant c.listed-item.is
