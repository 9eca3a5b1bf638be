use Rattle.std.proofs.Common.{◌∙◌, ap, sym, arith, map}
use Rattle.elf_image.specs.Parts.{image_of_parts, parts_fault, readable_page}
use Rattle.elf_image.proofs.PartImages.{lawful_parts, written_back}
use Rattle.elf_image.proofs.image.Image.from_parts.Goals as goal

pub new-requires : goal.new-requires
new-requires c =
    let all = written_back c.make_readable.new.pages c.args.pages.items c.args.pages.len (omega (arith, c.args.pages.ok.0)) (c.make_readable.ensures ∙ ap (map readable_page) c.deref_mut.ensures.value) in
    lawful_parts c.args.entry _ c.args.pages.items (sym (sym c.in_default.is ∙ c.fault_of.ensures ∙ ap (parts_fault c.args.entry) c.deref.ensures.value)) all

pub returns-clause-image : goal.returns-clause-image
unfolding image_of_parts
returns-clause-image c =
    let all = written_back c.make_readable.new.pages c.args.pages.items c.args.pages.len (omega (arith, c.args.pages.ok.0)) (c.make_readable.ensures ∙ ap (map readable_page) c.deref_mut.ensures.value) in
    c.new.ensures ∙ (λ i. record { entry = c.args.entry; pages = all i })
