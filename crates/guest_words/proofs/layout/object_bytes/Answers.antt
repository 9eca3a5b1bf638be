use Rattle.std.proofs.Common.{◌∙◌, ◌++◌, ◌-◌, ap, map, replicate, take}
use Rattle.elf_image.specs.Image.{bytes_of}
use Rattle.guest_words.specs.Words.{texts_of}
use Rattle.guest_words.proofs.ObjectLaws.{resized}
use Rattle.guest_words.proofs.layout.object_bytes.Goals as goal

pub returns-clause-bytes : goal.returns-clause-bytes
returns-clause-bytes c =
    let words = map (λ s. s.now) c.args.words.now in
    let bytes = c.add_texts.new.bytes in
    let is = c.in_ok-add_texts.ensures ∙ ap (λ l. l ++ texts_of words) (c.in_ok-bytes.ensures ∙ ap bytes_of (c.as_slice.ensures.value ∙ c.in_ok-numbers.ensures)) in
    c.in_ok-resize.ensures.items ∙ ap (λ n. take c.args.size bytes.items ++ replicate (c.args.size - n) 0) bytes.ok.0 ∙ resized c.args.address c.args.size words bytes.items is c.requires.fits
