use Rattle.std.proofs.Common.{◌≡◌, ◌+◌, ◌*◌, ◌∙◌, ap, arith, length, map, sym}
use Rattle.std.specs.List.{range_with_len, list_any}
use Rattle.elf_image.specs.ElfFiles.{program_headers, header_at, headers_count}
use Rattle.elf_image.specs.HeaderTests.{fails}
use Rattle.elf_image.proofs.Headers.{header_of, any_goes_on, any_stops}
use Rattle.elf_image.proofs.header_checks.any_fails.Goals as goal

pub returns-then-fails : goal.returns-then-fails
unfolding program_headers
returns-then-fails c =
    let header = c.read-header.ensures ∙ ap (λ start. header_at c.args.file.now (start + 32 * c.loop-place.place)) c.headers_offset-start.ensures in
    sym (any_stops (fails c.args.test (length c.args.file.now)) (header_of c.args.file.now) c.loop-place.place _ (omega arith) (ap (fails c.args.test (length c.args.file.now)) (sym header) ∙ sym c.if-fails.ensures))

pub loop-place-preserved : goal.loop-place-preserved
loop-place-preserved c =
    let header = c.read-header.ensures ∙ ap (λ start. header_at c.args.file.now (start + 32 * c.loop-place.place)) c.headers_offset-start.ensures in
    any_goes_on (fails c.args.test (length c.args.file.now)) (header_of c.args.file.now) c.loop-place.place c.loop-place.invariant (ap (fails c.args.test (length c.args.file.now)) (sym header) ∙ sym c.if-fails.ensures)

pub returns : goal.returns
unfolding program_headers
returns c =
    let last : c.loop-place.place ≡ headers_count c.args.file.now = omega arith in
    sym c.loop-place.invariant ∙ ap (λ n. list_any (fails c.args.test (length c.args.file.now)) (map (header_of c.args.file.now) (range_with_len 0 n))) last
