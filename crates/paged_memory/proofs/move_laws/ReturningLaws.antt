-- A page that is leaving is mapped again.
use Rattle.std.specs.Prelude.{◌≡◌, ℕ, ◌^◌, ◌<◌, ◌↔◌, Bool, true, false, ◌||◌, Some, None, option_map, Result, Ok, Err, IfOk, IsErr, List, refl}
use Rattle.std.specs.Result.{result_unwrap_or}
use Rattle.std.proofs.Common.{sym, ap, ◌∙◌, subst}
use Rattle.std.proofs.lemmas.Option.{same_Some}
use Rattle.page_memory.specs.Entries.{place_of, value_at}
use Rattle.page_memory.specs.declared.rights.Rights.{Rights}
use Rattle.page_store.specs.declared.refusal.NotLeaving.{NotLeaving}
use Rattle.page_store.specs.Keeping.{is_loose}
use Rattle.page_store.specs.Moves.{brought_back}
use Rattle.page_store.specs.PageValue.{PageValue, Place, Fresh, Resident, Leaving, Saving, Away, Purged, Backed}
use Rattle.sv32_table.specs.Entry.{Entry, page_entry}
use Rattle.sv32_table.specs.EntryAt.{entry_at, has_table, ChangesEntry, SameTables}
use Rattle.sv32_table.proofs.EntryLaws.{dirty-page_entry}
use Rattle.tlb_core.specs.declared.translation.Translation.{Translation}
use Rattle.paged_memory.specs.Seen.{frame_seen, rights_seen, takes_stores}
use Rattle.paged_memory.specs.moves.Leaving.{is_leaving, is_leaving_place, Returns, ReturnsAs}
use Rattle.paged_memory.specs.Calls.{ChangesBy}
use Rattle.paged_memory.specs.Paged.{seen_of, page_at, seen_at, flat_page, flat_pages, Holds, HoldsOrigin, IsConstant, ChangesPage}
use Rattle.paged_memory.proofs.SoundnessLaws.{Stays}
use Rattle.paged_memory.proofs.move_laws.PagedLaws.{page_at-place, Change, choice_here, Holds-held, memory_stays}
use Rattle.paged_memory.proofs.access_laws.CallLaws.{entry_at_changed, mapped_resident}

module _ {S : Type 0} where
  -- the page as `bring_back` leaves it
  pub returned : (page page' : PageValue S) (result : Result Bool NotLeaving) → is_leaving_place page.place ≡ true → IfOk result (λ changed. brought_back page.place ≡ Some (page'.place, changed)) → (IsErr result ↔ (brought_back page.place ≡ None)) → page'.origin ≡ page.origin → Returns (result_unwrap_or result false) page page'
  returned page page' result leaving ok refused origin = by_place page.place refl leaving result ok refused
    where
      by_place : (place : Place S) → page.place ≡ place → is_leaving_place place ≡ true → (result : Result Bool NotLeaving) → IfOk result (λ changed. brought_back place ≡ Some (page'.place, changed)) → (IsErr result ↔ (brought_back place ≡ None)) → Returns (result_unwrap_or result false) page page'
      by_place Fresh at is result ok refused = cc
      by_place (Resident frame slot) at is result ok refused = cc
      by_place (Leaving frame slot mark) at is (Ok changed) ok refused =
          let both = same_Some _ _ ok in
          let place : page'.place ≡ Resident frame slot = sym (ap (λ (p : Place S × Bool). p.0) both) in
          let same : mark ≡ changed = ap (λ (p : Place S × Bool). p.1) both in
          record {
            frame = frame;
            slot = slot;
            was = at ∙ ap (Leaving frame slot) same;
            is = ap (λ o. record { origin = o; place = page'.place }) origin ∙ ap (λ p. record { origin = page.origin; place = p }) place;
          }
      by_place (Leaving frame slot mark) at is (Err refusal) ok refused = let none = refused.0 refl in cc
      by_place (Saving frame mark) at is result ok refused = cc
      by_place (Away slot) at is result ok refused = cc
      by_place Purged at is result ok refused = cc

  -- the same of the page that is found at a place
  pub returned_at : (pages : List (ℕ × PageValue S)) (number place : ℕ) (page page' : PageValue S) (result : Result Bool NotLeaving) (changed : Bool) → place_of number pages ≡ Some place → value_at place pages ≡ Some page → is_leaving (page_at pages number) ≡ true → changed ≡ result_unwrap_or result false
      → IfOk result (λ changed. brought_back page.place ≡ Some (page'.place, changed)) → (IsErr result ↔ (brought_back page.place ≡ None)) → page'.origin ≡ page.origin → Returns changed page page'
  returned_at pages number place page page' result changed at value leaving is ok refused origin =
      subst (λ m. Returns m page page') (sym is) (returned page page' result (ap is_leaving (sym (page_at-place pages number place page at value)) ∙ leaving) ok refused origin)

  module _ {held : S → List ℕ} {honest : Type 0} {pages pages' : List (ℕ × PageValue S)} {tables : List (List ℕ)} {caches : List (List Translation)} (number : ℕ) (small : number < 2 ^ 20) (holds : Holds held honest pages tables caches) (mark : Bool) (told : ChangesBy (Returns mark) pages pages' number) where
    abbrev back : Returns mark told.page told.page'
    back = told.how

    abbrev page : PageValue S
    page = record { origin = told.page.origin; place = Leaving back.frame back.slot mark }

    abbrev page_now : PageValue S
    page_now = record { origin = told.page.origin; place = Resident back.frame back.slot }

    found : page_at pages number ≡ Some page
    found = told.found ∙ ap (λ p. Some (record { origin = told.page.origin; place = p })) back.was

    changes : ChangesPage pages pages' number page_now
    changes = subst (ChangesPage pages pages' number) back.is told.changes

    -- there is a table for its entry
    has_table_back : has_table tables number ≡ true
    has_table_back = holds.tabled number page small found refl

    abbrev entry : Entry
    entry = page_entry back.frame.number told.page.origin.rights false mark

    dirty_is : entry.dirty ≡ mark
    dirty_is = dirty-page_entry back.frame.number told.page.origin.rights false mark

    seen_then : seen_at pages number ≡ Some (seen_of page)
    seen_then = ap (option_map seen_of) found

    seen_now : seen_at pages' number ≡ Some (seen_of page_now)
    seen_now = ap (option_map seen_of) (changes.pages number ∙ choice_here number (Some page_now) (page_at pages number))

    backed_now : Backed held (entry_at tables number).dirty page → Backed held entry.dirty page_now
    backed_now was = rw dirty_is was

    constant_now : IsConstant (entry_at tables number).dirty page → IsConstant entry.dirty page_now
    constant_now was = λ fixed. subst (λ d. HoldsOrigin d told.page.origin.bytes back.frame back.slot) (sym dirty_is) (was fixed)

    module _ (tables' : List (List ℕ)) (entries : ChangesEntry tables tables' number (page_entry back.frame.number told.page.origin.rights false mark)) (same : SameTables tables tables') where
      change : Change held honest pages pages' tables tables' number page_now entry
      change =
          record {
            small = small;
            changes = changes;
            entry = entries;
            kept = λ q in_range has. same q in_range ∙ has;
            tabled = λ framed. same number small ∙ has_table_back;
            mapped = mapped_resident told.page.origin back.frame back.slot false mark refl ((holds.agree.mapped number small).readable told.page.origin.rights (ap rights_seen seen_then));
            backed = λ is_honest. backed_now (holds.backed is_honest number page small found);
            constant = constant_now (holds.constant number page small found);
          }

      stays : Stays (seen_at pages number) (seen_at pages' number) (entry_at tables number) (entry_at tables' number)
      stays =
          record {
            frame = ap frame_seen seen_now ∙ sym (ap frame_seen seen_then);
            rights = ap rights_seen seen_now ∙ sym (ap rights_seen seen_then);
            changed = λ was.
                ap (λ s. takes_stores s (entry_at tables' number)) seen_now ∙ ap (λ (e : Entry). e.dirty || is_loose back.slot) (entry_at_changed tables tables' entry number small entries)
                ∙ ap (λ d. d || is_loose back.slot) dirty_is ∙ sym (ap (λ s. takes_stores s (entry_at tables number)) seen_then) ∙ was;
          }

      -- everything goes together still: the translations of it that caches hold are to be dropped
      pub holds_returned : Holds held honest pages' tables' caches
      holds_returned = Holds-held change caches holds stays (λ used. cc)

  -- and what the memory holds stays
  pub memory_returned : (held : S → List ℕ) {pages pages' : List (ℕ × PageValue S)} {number : ℕ} {mark : Bool} → ChangesBy (Returns mark) pages pages' number → flat_pages held pages' ≡ flat_pages held pages
  memory_returned held {pages} {pages'} {number} {mark} told =
      memory_stays held pages pages' number told.page told.page' told.found
      (ap (flat_page held) told.how.is ∙ sym (ap (λ p. flat_page held (record { origin = told.page.origin; place = p })) told.how.was))
      told.changes

  -- the same by what is told of the page
  module _ {pages pages' : List (ℕ × PageValue S)} {number ppn : ℕ} {rights : Rights} {mark : Bool} (told : ChangesBy (ReturnsAs ppn rights mark) pages pages' number) where
    abbrev pub plain : ChangesBy (Returns mark) pages pages' number
    plain = record { page = told.page; page' = told.page'; found = told.found; changes = told.changes; how = told.how.returns }

    pub entry_plain : (tables tables' : List (List ℕ)) → ChangesEntry tables tables' number (page_entry ppn rights false mark) → ChangesEntry tables tables' number (page_entry told.how.returns.frame.number told.page.origin.rights false mark)
    entry_plain tables tables' entries =
        subst (λ n. ChangesEntry tables tables' number (page_entry n told.page.origin.rights false mark)) (sym told.how.ppn_is)
        (subst (λ r. ChangesEntry tables tables' number (page_entry ppn r false mark)) (sym told.how.rights_is) entries)
