-- One more page that is mapped, up to the last.
use Rattle.std.proofs.Common.{◌≡◌, ◌^◌, true, ◌&&◌, refl, ◌∙◌, sym, subst, arith}
use Rattle.page_store.specs.PageValue.{PageValue, frame_of}
use Rattle.paged_memory.specs.Counting.{pages_below, pages_where, is_resident_place, frame_passes}
use Rattle.paged_memory.specs.Paged.{PagedValue}
use Rattle.paged_memory.specs.Whole.{frames_among, residents_among}
use Rattle.paged_memory.proofs.HeldLaws.{none_counted, one_counted}
use Rattle.paged_memory.proofs.memory.PagedMemory.held_pages.Goals as goal

pub pages-init : goal.pages-init
unfolding pages_below
pages-init g c = record { resident = refl; framed = refl; few_resident = omega arith; few_framed = omega arith; small = omega arith }

pub pages-preserved : goal.pages-preserved
pages-preserved g c =
    let now = c.pages.invariant in
    let within = c.in-Some.ensures.within in
    let held = c.held_at-more.ensures in
    record {
      resident = one_counted (λ number (page : PageValue _). is_resident_place page.place && true) c.self.inside.pages c.pages.from c.in-Some.vpn c.pages.held.resident c.held_at-more.result.resident within.0 c.in-Some.ensures.before now.resident held.resident;
      framed = one_counted (λ number (page : PageValue _). frame_passes (λ _. true) (frame_of page.place)) c.self.inside.pages c.pages.from c.in-Some.vpn c.pages.held.framed c.held_at-more.result.framed within.0 c.in-Some.ensures.before now.framed held.framed;
      few_resident = omega (arith, now.few_resident, within.0, held.few_resident);
      few_framed = omega (arith, now.few_framed, within.0, held.few_framed);
      small = omega (arith, within.1);
    }

pub returns-clause-resident : goal.returns-clause-resident
unfolding pages_where
returns-clause-resident g c =
    subst (λ (v : PagedValue _). c.pages.held.resident ≡ residents_among v (λ _. true)) c.self.view_is (
    c.pages.invariant.resident
    ∙ sym (none_counted (λ number (page : PageValue _). is_resident_place page.place && true) c.self.inside.pages c.pages.from (2 ^ 20) c.pages.invariant.small c.in_default.ensures.none))

pub returns-clause-framed : goal.returns-clause-framed
unfolding pages_where
returns-clause-framed g c =
    subst (λ (v : PagedValue _). c.pages.held.framed ≡ frames_among v (λ _. true)) c.self.view_is (
    c.pages.invariant.framed
    ∙ sym (none_counted (λ number (page : PageValue _). frame_passes (λ _. true) (frame_of page.place)) c.self.inside.pages c.pages.from (2 ^ 20) c.pages.invariant.small c.in_default.ensures.none))
