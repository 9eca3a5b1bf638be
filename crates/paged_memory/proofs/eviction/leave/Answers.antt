use Rattle.std.proofs.Common.{◌≡◌, Some, ap, sym, ◌∙◌, option_map}
use Rattle.page_store.specs.PageValue.{page_state_of}
use Rattle.page_store.specs.declared.state.PageState.TheVariants.{Resident}
use Rattle.page_memory.specs.Entries.{place_of}
use Rattle.paged_memory.proofs.move_laws.PagedLaws.{page_at-place, changed_by}
use Rattle.paged_memory.proofs.move_laws.LeavingLaws.{leaves}
use Rattle.paged_memory.proofs.eviction.leave.Goals as goal

pub place_there-place-requires-clause-there : goal.place_there-place-requires-clause-there
place_there-place-requires-clause-there g c = λ none. let clash = sym c.requires.resident ∙ ap (option_map (λ page. page_state_of page.place)) none in cc

pub returns : goal.returns
returns g c =
    let at : place_of c.args.vpn c.args.pages.now ≡ Some c.place_there-place.result = c.place_there-place.ensures.place in
    let found = page_at-place c.args.pages.now c.args.vpn c.place_there-place.result c.at_mut.result.now at c.at_mut.ensures.value in
    let is : Some (page_state_of c.at_mut.result.now.place) ≡ Some Resident = ap (option_map (λ page. page_state_of page.place)) (sym found) ∙ c.requires.resident in
    changed_by c.args.pages.now c.args.vpn c.place_there-place.result c.at_mut.result.now c.leave.new.self at c.at_mut.ensures.value
    (leaves c.args.changed c.at_mut.result.now c.leave.new.self c.leave.result (cc) c.leave.ensures.ok c.leave.ensures.refused c.leave.ensures.origin)
