use Rattle.std.proofs.Common.{◌∙◌, ◌++◌, ap, sym, arith, subst, length, slice_index_or, flat_map}
use Rattle.elf_image.specs.WrittenFiles.{file_header, segment_header, HasRoom}
use Rattle.elf_image.proofs.WrittenBytes.{front_written}
use Rattle.elf_image.proofs.writing.put_front.Goals as goal

pub put_segment_headers-requires : goal.put_segment_headers-requires
put_segment_headers-requires c = λ k d l. subst (λ start. HasRoom start (slice_index_or c.args.segments.now k d)) (sym c.offset_of_pages-start.ensures.offset) (c.requires.room k d l)

pub returns : goal.returns
returns c =
    let header = c.in_ok-put_header.ensures ∙ ap (λ l. l ++ file_header c.args.entry (length c.args.segments.now)) c.requires.empty in
    let headers = c.in_ok-put_segment_headers.ensures ∙ ap (λ l. l ++ flat_map (segment_header c.offset_of_pages-start.result) c.args.segments.now) header in
    c.in_ok-resize.ensures.items
    ∙ front_written c.args.entry c.offset_of_pages-start.result _ c.args.segments.now c.put_segment_headers.new.file.items c.offset_of_pages-start.ensures.offset (omega (arith, c.put_segment_headers.new.file.ok.0)) headers
