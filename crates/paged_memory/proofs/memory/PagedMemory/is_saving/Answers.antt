use Rattle.std.proofs.Common.{◌≡◌, false, refl, arith, subst}
use Rattle.page_store.specs.PageValue.{is_out}
use Rattle.paged_memory.specs.Counting.{page_passes}
use Rattle.paged_memory.specs.moves.Moving.{SavesNone}
use Rattle.paged_memory.specs.Paged.{PagedValue}
use Rattle.paged_memory.proofs.move_laws.GivingBackLaws.{every_page}
use Rattle.paged_memory.proofs.memory.PagedMemory.is_saving.Goals as goal

pub returns-clause-none : goal.returns-clause-none
returns-clause-none g c =
    subst (λ (v : PagedValue _). SavesNone v) c.self.view_is
    (λ q small. every_page (λ _ o. page_passes (λ page. is_out page.place) o ≡ false) c.self.inside.pages (λ _. refl) (λ k within. c.loop-place.invariant k (omega (arith, within, c.loop-place-test.false, c.len-place-end.ensures))) q)
