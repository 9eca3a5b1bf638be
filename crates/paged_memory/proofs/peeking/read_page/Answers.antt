use Rattle.std.proofs.Common.{◌≡◌, refl, length, Some, option_map, sym, ap, ◌∙◌, subst}
use Rattle.page_memory.specs.Entries.{place_of}
use Rattle.paged_memory.specs.moves.Filling.{IsAbsent}
use Rattle.paged_memory.specs.Peeking.{ShowsBytes, LeavesPage}
use Rattle.paged_memory.proofs.move_laws.PagedLaws.{page_at-place, page_at-nowhere, called_nowhere, called_placed, failures_placed}
use Rattle.paged_memory.proofs.PeekingLaws.{page_left, page_failed}
use Rattle.paged_memory.proofs.peeking.read_page.Goals as goal

pub returns-in_default-clause-refused : goal.returns-in_default-clause-refused
returns-in_default-clause-refused g c = page_at-nowhere c.args.pages.now c.args.vpn (sym c.place.ensures.place ∙ c.in_default.is)

pub returns-in_default-clause-left : goal.returns-in_default-clause-left
returns-in_default-clause-left g c =
    subst (LeavesPage g.S.SwapSlot.content g.S.SwapSlot.honest c.args.pages.now c.args.pages.now c.args.vpn) (sym (page_at-nowhere c.args.pages.now c.args.vpn (sym c.place.ensures.place ∙ c.in_default.is))) refl

pub returns-in-Ok-clause-bytes : goal.returns-in-Ok-clause-bytes
returns-in-Ok-clause-bytes g c =
    let at : place_of c.args.vpn c.args.pages.now ≡ Some c.in-Some.place = sym c.place.ensures.place ∙ c.in-Some.is in
    subst (λ o. ShowsBytes g.S.SwapSlot.content g.S.SwapSlot.honest o c.args.offset (length c.args.bytes.now) c.read.new.bytes) (sym (page_at-place c.args.pages.now c.args.vpn c.in-Some.place c.at_mut.result.now at c.at_mut.ensures.value))
    (c.in-Ok.ensures.mapped, c.in-Ok.ensures.bytes)

pub returns-in-Ok-clause-passed : goal.returns-in-Ok-clause-passed
returns-in-Ok-clause-passed g c =
    let at : place_of c.args.vpn c.args.pages.now ≡ Some c.in-Some.place = sym c.place.ensures.place ∙ c.in-Some.is in
    failures_placed g.S.SwapSlot.failures c.args.pages.now c.args.vpn c.in-Some.place c.at_mut.result.now c.read.new.self at c.at_mut.ensures.value c.in-Ok.ensures.passed

pub returns-in-Ok-clause-left : goal.returns-in-Ok-clause-left
returns-in-Ok-clause-left g c =
    let at : place_of c.args.vpn c.args.pages.now ≡ Some c.in-Some.place = sym c.place.ensures.place ∙ c.in-Some.is in
    page_left g.S.SwapSlot.content g.S.SwapSlot.honest c.args.pages.now c.args.vpn c.in-Some.place c.at_mut.result.now c.read.new.self at c.at_mut.ensures.value c.read.ensures.state c.read.ensures.at_hand c.read.ensures.origin c.read.ensures.content c.read.ensures.digest

pub returns-in-Err-Purged-clause-refused : goal.returns-in-Err-Purged-clause-refused
returns-in-Err-Purged-clause-refused g c =
    let at : place_of c.args.vpn c.args.pages.now ≡ Some c.in-Some.place = sym c.place.ensures.place ∙ c.in-Some.is in
    ap (option_map (λ page. page.place)) (page_at-place c.args.pages.now c.args.vpn c.in-Some.place c.at_mut.result.now at c.at_mut.ensures.value)
    ∙ ap Some (rw c.in-Err-Purged.field-0-is at c.in-Err-Purged.ensures.refused).0

pub returns-in-Err-Purged-clause-left : goal.returns-in-Err-Purged-clause-left
returns-in-Err-Purged-clause-left g c =
    let at : place_of c.args.vpn c.args.pages.now ≡ Some c.in-Some.place = sym c.place.ensures.place ∙ c.in-Some.is in
    page_left g.S.SwapSlot.content g.S.SwapSlot.honest c.args.pages.now c.args.vpn c.in-Some.place c.at_mut.result.now c.read.new.self at c.at_mut.ensures.value c.read.ensures.state c.read.ensures.at_hand c.read.ensures.origin c.read.ensures.content c.read.ensures.digest

pub returns-in-Err-Device-clause-refused : goal.returns-in-Err-Device-clause-refused
returns-in-Err-Device-clause-refused g c =
    let at : place_of c.args.vpn c.args.pages.now ≡ Some c.in-Some.place = sym c.place.ensures.place ∙ c.in-Some.is in
    page_failed g.S.SwapSlot.content g.S.SwapSlot.honest c.args.pages.now c.args.vpn c.in-Some.place c.at_mut.result.now c.read.new.self at c.at_mut.ensures.value g.S.SwapSlot.failures (rw c.in-Err-Device.field-0-is at c.in-Err-Device.ensures.refused) c.read.ensures.origin c.read.ensures.content c.read.ensures.digest

pub returns-in-Err-Device-clause-left : goal.returns-in-Err-Device-clause-left
returns-in-Err-Device-clause-left g c =
    let at : place_of c.args.vpn c.args.pages.now ≡ Some c.in-Some.place = sym c.place.ensures.place ∙ c.in-Some.is in
    page_left g.S.SwapSlot.content g.S.SwapSlot.honest c.args.pages.now c.args.vpn c.in-Some.place c.at_mut.result.now c.read.new.self at c.at_mut.ensures.value c.read.ensures.state c.read.ensures.at_hand c.read.ensures.origin c.read.ensures.content c.read.ensures.digest

pub returns-in_default-clause-called : goal.returns-in_default-clause-called
returns-in_default-clause-called g c =
    called_nowhere g.S.SwapSlot.called c.args.pages.now c.args.vpn (λ absent. subst IsAbsent (page_at-nowhere c.args.pages.now c.args.vpn (sym c.place.ensures.place ∙ c.in_default.is)) absent)

pub returns-in-Ok-clause-called : goal.returns-in-Ok-clause-called
returns-in-Ok-clause-called g c =
    let at : place_of c.args.vpn c.args.pages.now ≡ Some c.in-Some.place = sym c.place.ensures.place ∙ c.in-Some.is in
    called_placed g.S.SwapSlot.called c.args.pages.now c.args.vpn c.in-Some.place c.at_mut.result.now c.read.new.self at c.at_mut.ensures.value c.read.ensures.called

pub returns-in-Err-Purged-clause-called : goal.returns-in-Err-Purged-clause-called
returns-in-Err-Purged-clause-called g c =
    let at : place_of c.args.vpn c.args.pages.now ≡ Some c.in-Some.place = sym c.place.ensures.place ∙ c.in-Some.is in
    called_placed g.S.SwapSlot.called c.args.pages.now c.args.vpn c.in-Some.place c.at_mut.result.now c.read.new.self at c.at_mut.ensures.value c.read.ensures.called

pub returns-in-Err-Device-clause-called : goal.returns-in-Err-Device-clause-called
returns-in-Err-Device-clause-called g c =
    let at : place_of c.args.vpn c.args.pages.now ≡ Some c.in-Some.place = sym c.place.ensures.place ∙ c.in-Some.is in
    called_placed g.S.SwapSlot.called c.args.pages.now c.args.vpn c.in-Some.place c.at_mut.result.now c.read.new.self at c.at_mut.ensures.value c.read.ensures.called
