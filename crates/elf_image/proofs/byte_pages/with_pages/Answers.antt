use Rattle.elf_image.specs.BytePages.{nth_page}
use Rattle.elf_image.proofs.PageCuts.{pages_push}
use Rattle.elf_image.proofs.byte_pages.with_pages.Goals as goal

pub loop-place-preserved : goal.loop-place-preserved
loop-place-preserved c =
    pages_push c.args.pages.items c.loop-place.pages.items _ (nth_page c.args.first c.args.rights c.args.bytes.now) c.loop-place.place _
    c.loop-place.invariant c.in_ok-page_of_bytes.ensures c.in_ok-push.ensures.items
