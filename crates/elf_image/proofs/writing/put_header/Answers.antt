use Rattle.std.proofs.Common.{◌∙◌, ◌++◌, ap}
use Rattle.std.proofs.lemmas.Result.{IfOk-equal}
use Rattle.elf_image.specs.Image.{bytes_of}
use Rattle.elf_image.specs.WrittenFiles.{file_header, halves, identification, kind_and_machine, places_and_flags, sizes_and_counts}
use Rattle.elf_image.proofs.WrittenBytes.{four_parts}
use Rattle.elf_image.proofs.writing.put_header.Goals as goal

pub returns : goal.returns
unfolding file_header
returns c =
    IfOk-equal c.put_halves-2.result _ _ _ c.put_halves-2.ensures (
    ap (λ l. l ++ halves (sizes_and_counts c.args.count)) (
    c.in_ok-put_words.ensures
    ∙ ap (λ l. l ++ bytes_of (places_and_flags c.args.entry)) (c.in_ok-put_halves.ensures ∙ ap (λ l. l ++ halves kind_and_machine) c.in_ok-extend_from_slice.ensures.items))
    ∙ four_parts c.args.file.now.items identification (halves kind_and_machine) (bytes_of (places_and_flags c.args.entry)) (halves (sizes_and_counts c.args.count)))
