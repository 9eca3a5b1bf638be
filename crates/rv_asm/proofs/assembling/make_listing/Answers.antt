use Rattle.std.proofs.Common.{◌≡◌, ◌∙◌, ap, sym, subst, arith, length, ◌++◌}
use Rattle.std.proofs.lemmas.Result.{IfOk-at_ok}
use Rattle.elf_image.proofs.ImageLaws.{length-bytes_of}
use Rattle.page_memory.specs.Words.{page_number}
use Rattle.elf_image.specs.Image.{ImageContent, bytes_of}
use Rattle.elf_image.specs.Parts.{parts_fault, image_of_parts}
use Rattle.rv_asm.specs.Words.{Spell}
use Rattle.elf_image.specs.BytePages.{byte_pages}
use Rattle.rv_asm.specs.Listing.{ListingContent, image_of, text_rights, data_rights}
use Rattle.rv_asm.proofs.SecondSteps.{pass_length}
use Rattle.rv_asm.proofs.Spelling.{spell_length}
use Rattle.rv_asm.proofs.PagesPass.{pages_pass, image_from_parts, ok_from_no_fault}
use Rattle.rv_asm.proofs.assembling.make_listing.Goals as goal

pub with_pages-requires-clause-few : goal.with_pages-requires-clause-few
with_pages-requires-clause-few c =
    let long = pass_length c.args.program.now.items c.args.sections c.requires.put in
    let text = long.0 in
    let words = spell_length c.into_parts-words.result.0.items c.args.sections.text c.into_parts-words.ensures.words in
    let code = ap length (c.deref-2.ensures.value ∙ c.in_ok-code.ensures ∙ ap bytes_of c.deref.ensures.value) in
    let bytes = length-bytes_of c.into_parts-words.result.0.items in
    let fits = c.items.ensures.text_fits in
    omega arith

pub with_pages-requires-2-clause-few : goal.with_pages-requires-2-clause-few
with_pages-requires-2-clause-few c =
    let long = pass_length c.args.program.now.items c.args.sections c.requires.put in
    let bytes = ap length (c.deref-3.ensures.value ∙ c.into_parts-words.ensures.bytes) in
    let data_size = long.1 in
    let fits = c.items.ensures.data_fits in
    omega arith

pub overflow_cast-len : goal.overflow_cast-len
overflow_cast-len c =
    let long = pass_length c.args.program.now.items c.args.sections c.requires.put in
    let bytes = ap length (c.deref-3.ensures.value ∙ c.into_parts-words.ensures.bytes) in
    let whole = ap length c.into_parts-words.ensures.bytes in
    let full = c.into_parts-words.result.2.ok.0 in
    let len = c.len.ensures in
    let data_size = long.1 in
    let fits = c.items.ensures.data_fits in
    omega arith

pub unwrap-image-requires : goal.unwrap-image-requires
unwrap-image-requires c =
    let long = pass_length c.args.program.now.items c.args.sections c.requires.put in
    let text = long.0 in
    let words = spell_length c.into_parts-words.result.0.items c.args.sections.text c.into_parts-words.ensures.words in
    let code = c.deref-2.ensures.value ∙ c.in_ok-code.ensures ∙ ap bytes_of c.deref.ensures.value in
    let bytes = c.deref-3.ensures.value ∙ c.into_parts-words.ensures.bytes in
    let first = c.in_ok-pages.ensures ∙ (λ i. c.new.ensures.items i ++ byte_pages (c.page_of.ensures.number i) text_rights (code i)) in
    let pages = c.in_ok-pages-2.ensures ∙ (λ i. first i ++ byte_pages ((c.page_of-first.ensures.number ∙ ap page_number c.start.ensures.start) i) data_rights (bytes i)) in
    ok_from_no_fault c.from_parts.result
    (c.from_parts.ensures.refusal ∙ (λ i. parts_fault (c.entry.ensures i) (pages i))
    ∙ pages_pass c.args.program.now.items c.into_parts-words.result.0.items c.args.sections.bytes (omega arith) long.1 c.requires.some c.items.ensures.text_fits c.items.ensures.data_fits)

pub returns : goal.returns
returns c =
    let code = c.deref-2.ensures.value ∙ c.in_ok-code.ensures ∙ ap bytes_of c.deref.ensures.value in
    let bytes = c.deref-3.ensures.value ∙ c.into_parts-words.ensures.bytes in
    let first = c.in_ok-pages.ensures ∙ (λ i. c.new.ensures.items i ++ byte_pages (c.page_of.ensures.number i) text_rights (code i)) in
    let pages = c.in_ok-pages-2.ensures ∙ (λ i. first i ++ byte_pages ((c.page_of-first.ensures.number ∙ ap page_number c.start.ensures.start) i) data_rights (bytes i)) in
    let made = IfOk-at_ok (λ (image : ImageContent). image ≡ image_of_parts c.entry.result c.in_ok-pages-2.pages.items) c.unwrap-image.ensures c.from_parts.ensures.image in
    let listing = c.new-2.ensures in
    record {
      words = subst (λ (l : ListingContent). Spell l.words c.args.sections.text) (sym listing) c.into_parts-words.ensures.words;
      instructions = ap (λ (l : ListingContent). l.instructions) listing ∙ c.into_parts-words.ensures.instructions;
      image = ap (λ (l : ListingContent). l.image) listing ∙ made ∙ (λ i. image_of_parts (c.entry.ensures i) (pages i)) ∙ image_from_parts c.args.program.now.items c.into_parts-words.result.0.items c.args.sections.bytes
          ∙ ap (λ w. image_of c.args.program.now.items w c.args.sections.bytes) (sym (ap (λ (l : ListingContent). l.words) listing));
      data_bytes =
          let d = ap (λ (l : ListingContent). l.data_bytes) listing in
          let len = c.len.ensures in
          let full = c.into_parts-words.result.2.ok.0 in
          let b = ap length c.into_parts-words.ensures.bytes in
          omega arith;
    }
