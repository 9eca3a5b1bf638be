use Rattle.std.proofs.Common.{◌++◌, ◌∷◌, [], take, map, arith, ap, sym, ◌∙◌, subst}
use Rattle.std.specs.FinMap.{get, insert, from_entries}
use Rattle.elf_image.specs.declared.image.ImagePage.{ImagePage}
use Rattle.page_memory.specs.Memory.{Memory, unreserved}
use Rattle.flat_machine.specs.Process.{image_entry}
use Rattle.flat_machine.proofs.PagesLaws.{KeysBelow, images_below, unmapped, one_more_page, one_more_image}
use Rattle.flat_machine.proofs.opening.image_memory.Goals as goal

pub map_page-requires-clause-absent : goal.map_page-requires-clause-absent
map_page-requires-clause-absent c =
    let below : KeysBelow c.listed-item.result.number (map image_entry (take c.loop-listed.listed-index c.args.pages.now)) = subst (λ (p : ImagePage). KeysBelow p.number (map image_entry (take c.loop-listed.listed-index c.args.pages.now))) (sym c.listed-item.is) (images_below c.args.pages.now c.loop-listed.listed-index c.listed-item.result c.requires c.loop-listed-test.true) in
    ap (λ (m : Memory). get m.pages c.listed-item.result.number) c.loop-listed.invariant ∙ unmapped _ c.listed-item.result.number _ below (omega arith)

pub loop-listed-preserved : goal.loop-listed-preserved
loop-listed-preserved c =
    let below : KeysBelow c.listed-item.result.number (map image_entry (take c.loop-listed.listed-index c.args.pages.now)) = subst (λ (p : ImagePage). KeysBelow p.number (map image_entry (take c.loop-listed.listed-index c.args.pages.now))) (sym c.listed-item.is) (images_below c.args.pages.now c.loop-listed.listed-index c.listed-item.result c.requires c.loop-listed-test.true) in
    c.in_ok-map_page.ensures.ok
    ∙ (λ i. record { pages = insert (c.loop-listed.invariant i).pages c.listed-item.result.number (c.in_ok-page.ensures i); reserved = (c.loop-listed.invariant i).reserved })
    ∙ ap unreserved (one_more_page c.listed-item.result.number c.listed-item.result.number c.listed-item.result.page _ below (omega arith))
    ∙ ap (λ (p : ImagePage). unreserved (from_entries (map image_entry (take c.loop-listed.listed-index c.args.pages.now) ++ image_entry p ∷ []))) c.listed-item.is
    ∙ ap (λ entries. unreserved (from_entries entries)) (one_more_image c.args.pages.now c.loop-listed.listed-index c.listed-item.result c.loop-listed-test.true)
