-- One more page that is mapped, up to the last.
use Rattle.std.proofs.Common.{◌≡◌, ◌^◌, refl, ◌∙◌, sym, subst, arith}
use Rattle.page_store.specs.PageValue.{PageValue, slot_of}
use Rattle.paged_memory.specs.Counting.{pages_below, pages_where, is_kept}
use Rattle.paged_memory.specs.Paged.{PagedValue}
use Rattle.paged_memory.specs.Whole.{slots_within}
use Rattle.paged_memory.proofs.HeldLaws.{none_counted, one_counted}
use Rattle.paged_memory.proofs.memory.PagedMemory.slots_at_hand.Goals as goal

pub pages-init : goal.pages-init
unfolding pages_below
pages-init g c = record { counted = refl; few = omega arith; small = omega arith }

pub pages-preserved : goal.pages-preserved
pages-preserved g c =
    let now = c.pages.invariant in
    let within = c.in-Some.ensures.within in
    let more = c.slot_at-count.ensures in
    record {
      counted = one_counted (λ number (page : PageValue _). is_kept (slot_of page.place)) c.self.inside.pages c.pages.from c.in-Some.vpn c.pages.count c.slot_at-count.result within.0 c.in-Some.ensures.before now.counted more.count;
      few = omega (arith, now.few, within.0, more.few);
      small = omega (arith, within.1);
    }

pub returns : goal.returns
unfolding pages_where
returns g c =
    subst (λ (v : PagedValue _). c.pages.count ≡ slots_within v) c.self.view_is (
    c.pages.invariant.counted
    ∙ sym (none_counted (λ number (page : PageValue _). is_kept (slot_of page.place)) c.self.inside.pages c.pages.from (2 ^ 20) c.pages.invariant.small c.in_default.ensures.none))
