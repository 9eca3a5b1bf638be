use Rattle.std.proofs.Common.{◌≡◌, ◌+◌, ◌*◌, ◌∙◌, ap, arith, map, sym}
use Rattle.std.specs.Global.{Vec}
use Rattle.std.specs.List.{range_with_len, filter}
use Rattle.elf_image.specs.declared.program_header.ProgramHeader.{ProgramHeader}
use Rattle.elf_image.specs.ElfFiles.{header_at, headers_count}
use Rattle.elf_image.specs.Segments.{is_segment}
use Rattle.elf_image.proofs.Headers.{header_of, segments_by_test, segment_pushed, segment_skipped}
use Rattle.elf_image.proofs.segments.segments.Goals as goal
use Rattle.elf_image.proofs.segments.segments.Goals.{then-is_segment+in_ok-push, else-is_segment}

pub loop-place-preserved : goal.loop-place-preserved
loop-place-preserved c =
    let header = c.read-header.ensures ∙ ap (λ start. header_at c.args.file.now (start + 32 * c.loop-place.place)) c.headers_offset-start.ensures in
    elim c.if-is_segment.branch [
      | then-is_segment+in_ok-push w ↦ segment_pushed c.args.file.now _ _ c.loop-place.place c.read-header.result c.loop-place.invariant header (sym w.if-is_segment.ensures) (ap (λ (v : Vec ProgramHeader). v.items) w.loaded-is ∙ w.in_ok-push.ensures.items)
      | else-is_segment w ↦ segment_skipped c.args.file.now _ _ c.loop-place.place c.read-header.result c.loop-place.invariant header (sym w.if-is_segment.ensures) (ap (λ (v : Vec ProgramHeader). v.items) w.loaded-is)
    ]

pub returns : goal.returns
returns c =
    let last : c.loop-place.place ≡ headers_count c.args.file.now = omega arith in
    c.loop-place.invariant ∙ ap (λ n. filter is_segment (map (header_of c.args.file.now) (range_with_len 0 n))) last ∙ sym (segments_by_test c.args.file.now)
