use Rattle.std.proofs.Common.{◌∙◌, ◌++◌, ap, sym, arith, subst, length}
use Rattle.elf_image.specs.Image.{ArePages}
use Rattle.elf_image.specs.WrittenFiles.{elf_file, file_front, page_bytes, runs}
use Rattle.elf_image.proofs.WrittenBytes.{length-runs, runs_have_room}
use Rattle.elf_image.proofs.writing.write_elf.Goals as goal

pub offset_of_pages-requires : goal.offset_of_pages-requires
offset_of_pages-requires c =
    let ordered = subst ArePages (sym c.pages-pages.ensures.pages) c.pages-pages.ensures.ordered in
    let few = ordered.few in
    let count = ap length c.in_ok-segments.ensures in
    let most = length-runs c.pages-pages.result.now in
    omega (arith, c.in_ok-segments.segments.ok.0, c.len.ensures)

pub put_front-requires-clause-few : goal.put_front-requires-clause-few
put_front-requires-clause-few c =
    let ordered = subst ArePages (sym c.pages-pages.ensures.pages) c.pages-pages.ensures.ordered in
    let few = ordered.few in
    let count = ap length (c.deref.ensures.value ∙ c.in_ok-segments.ensures) in
    let most = length-runs c.pages-pages.result.now in
    omega arith

pub put_front-requires-clause-room : goal.put_front-requires-clause-room
put_front-requires-clause-room c =
    let ordered = subst ArePages (sym c.pages-pages.ensures.pages) c.pages-pages.ensures.ordered in
    runs_have_room c.pages-pages.result.now c.deref.result.now ordered.few ordered.low (c.deref.ensures.value ∙ c.in_ok-segments.ensures)

pub returns : goal.returns
unfolding elf_file
returns c =
    c.in_ok-put_pages.ensures
    ∙ (λ i. c.in_ok-put_front.ensures i ++ page_bytes (c.pages-pages.ensures.pages i))
    ∙ (λ i. file_front (c.entry.ensures i) ((c.deref.ensures.value ∙ c.in_ok-segments.ensures ∙ ap runs c.pages-pages.ensures.pages) i) ++ page_bytes c.args.image.now.pages)
