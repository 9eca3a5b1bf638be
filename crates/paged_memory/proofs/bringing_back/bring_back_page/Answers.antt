use Rattle.std.proofs.Common.{◌≡◌, Some, ap, sym, ◌∙◌}
use Rattle.std.proofs.lemmas.Option.{same_Some}
use Rattle.std.specs.Option.{option_copied}
use Rattle.frame_pool.specs.FrameValue.{FrameValue}
use Rattle.page_memory.specs.Pages.{Page}
use Rattle.page_memory.specs.Entries.{place_of}
use Rattle.page_store.specs.PageValue.{frame_of}
use Rattle.paged_memory.specs.moves.Leaving.{is_leaving, ReturnsAs}
use Rattle.paged_memory.proofs.move_laws.PagedLaws.{changed_by}
use Rattle.paged_memory.proofs.move_laws.ReturningLaws.{returned_at}
use Rattle.paged_memory.proofs.bringing_back.bring_back_page.Goals as goal

pub place_there-place-requires-clause-there : goal.place_there-place-requires-clause-there
place_there-place-requires-clause-there g c = λ none. let clash = sym c.requires.leaving ∙ ap is_leaving none in cc

pub unreachable-requires : goal.unreachable-requires
unreachable-requires g c =
    let at : place_of c.args.vpn c.args.pages.now ≡ Some c.place_there-place.result = c.place_there-place.ensures.place in
    let back = returned_at c.args.pages.now c.args.vpn c.place_there-place.result c.at_mut-page.result.now c.bring_back.new.self c.bring_back.result c.unwrap_or-changed.result at c.at_mut-page.ensures.value c.requires.leaving c.unwrap_or-changed.ensures c.bring_back.ensures.ok c.bring_back.ensures.refused c.bring_back.ensures.origin in
    let clash = sym (ap option_copied c.in_default.is) ∙ c.frame.ensures ∙ ap (λ p. frame_of p.place) back.is in cc

pub returns-clause-back : goal.returns-clause-back
returns-clause-back g c =
    let at : place_of c.args.vpn c.args.pages.now ≡ Some c.place_there-place.result = c.place_there-place.ensures.place in
    let back = returned_at c.args.pages.now c.args.vpn c.place_there-place.result c.at_mut-page.result.now c.bring_back.new.self c.bring_back.result c.unwrap_or-changed.result at c.at_mut-page.ensures.value c.requires.leaving c.unwrap_or-changed.ensures c.bring_back.ensures.ok c.bring_back.ensures.refused c.bring_back.ensures.origin in
    let frame : back.frame ≡ c.in-Some.frame.now = same_Some _ _ (sym (ap (λ p. frame_of p.place) back.is) ∙ sym c.frame.ensures ∙ ap option_copied c.in-Some.is) in
    let returns : ReturnsAs c.number.result c.rights.result c.unwrap_or-changed.result c.at_mut-page.result.now c.bring_back.new.self = record {
      returns = back;
      ppn_is = ap (λ (f : FrameValue). f.number) frame ∙ sym c.number.ensures.number;
      rights_is = ap (λ (o : Page). o.rights) (sym c.bring_back.ensures.origin) ∙ sym c.rights.ensures;
    } in
    changed_by c.args.pages.now c.args.vpn c.place_there-place.result c.at_mut-page.result.now c.bring_back.new.self at c.at_mut-page.ensures.value returns
