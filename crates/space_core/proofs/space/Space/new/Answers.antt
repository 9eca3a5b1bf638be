use Rattle.std.proofs.Common.{ap, ◌∙◌, sym, subst}
use Rattle.elf_image.specs.Image.{ArePages}
use Rattle.flat_machine.specs.Process.{opening, opening_pages}
use Rattle.space_core.specs.RunningValue.{RecordedValue, beside}
use Rattle.paged_memory.specs.Fresh.{HasFresh}
use Rattle.space_core.proofs.Opened.{decoded_opened}
use Rattle.space_core.proofs.space.Space.new.Goals as goal

pub invariant_of-result : goal.invariant_of-result
invariant_of-result g c =
    decoded_opened g.S.SwapSlot.content g.S.SwapSlot.honest c.in_ok-decoded.decoded c.pages-pages.result.now c.in_ok-decoded.ensures (subst ArePages (sym c.pages-pages.ensures.pages) c.pages-pages.ensures.ordered) _ c.pages-pages.ensures.pages
    (ap (λ (r : RecordedValue). r.running) c.in_ok-recorded.ensures ∙ ap (λ l. beside (opening c.args.image l)) c.in_ok-share.ensures)
    (ap (λ (r : RecordedValue). r.schedule) c.in_ok-recorded.ensures)
    c.in_ok-memory.ensures.pages
    c.in_ok-memory.ensures.caches
    c.in_ok-memory.ensures.reserved

pub returns-clause-pages : goal.returns-clause-pages
returns-clause-pages g c = subst (λ l. HasFresh (opening_pages l) c.in_ok-memory.memory) c.pages-pages.ensures.pages c.in_ok-memory.ensures.pages
