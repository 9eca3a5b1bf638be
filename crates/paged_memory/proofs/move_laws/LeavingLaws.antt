-- A resident page begins to leave its frame.
use Rattle.std.specs.Prelude.{◌≡◌, ℕ, ◌^◌, ◌<◌, ◌==◌, Bool, false, ◌||◌, if◌then◌else◌, Some, option_map, Result, Ok, Err, OnOk, IfErr, List, map, refl, ◌⊎◌}
use Rattle.std.proofs.Common.{sym, ap, ◌∙◌, subst, inl, inr}
use Rattle.frame_pool.specs.FrameValue.{FrameValue}
use Rattle.page_store.specs.Keeping.{Keeping, NoSlot, Saved, Unbacked, Cleaning, CopyOut, is_loose, settled}
use Rattle.page_store.specs.declared.state.PageState.TheVariants as stage
use Rattle.page_store.specs.declared.refusal.LeaveRefusal.{LeaveRefusal}
use Rattle.page_store.specs.PageValue.{PageValue, Place, Fresh, Resident, Leaving, Saving, Away, Purged, page_state_of, Backed}
use Rattle.page_store.specs.Moves.{IfResident, left}
use Rattle.sv32_table.specs.Entry.{Entry, blank}
use Rattle.sv32_table.specs.EntryAt.{entry_at, ChangesEntry, SameTables, unmapped_entry, dirty_of}
use Rattle.sv32_table.proofs.EntryLaws.{unmapped_entry-page_entry, dirty_of-page_entry}
use Rattle.tlb_core.specs.declared.translation.Translation.{Translation}
use Rattle.tlb_core.specs.Cache.{doomed}
use Rattle.paged_memory.specs.Seen.{frame_seen, rights_seen, takes_stores}
use Rattle.paged_memory.specs.Calls.{IsResident, ChangesBy, Leaves}
use Rattle.paged_memory.specs.cleaning.Copies.{LeavesCopies, if_out}
use Rattle.paged_memory.proofs.cleaning_laws.CopiesMoveLaws.{other_bits, moved_copies}
use Rattle.paged_memory.specs.Paged.{PagedValue, seen_of, page_at, seen_at, flat_page, flat_pages, Holds, HoldsOrigin, IsConstant, ChangesPage}
use Rattle.paged_memory.proofs.SeenLaws.{unbacked_settled, loose_settled, backing_settled}
use Rattle.paged_memory.proofs.SoundnessLaws.{Stays}
use Rattle.paged_memory.proofs.move_laws.PagedLaws.{Change, choice_here, Holds-doomed, memory_stays}
use Rattle.paged_memory.proofs.access_laws.CallLaws.{entry_resident, seen_resident}

module _ {S : Type 0} where
  -- a resident page does not refuse to leave
  pub leaves : {U : Type 0} (mark : Bool) (page page' : PageValue S) (result : Result U LeaveRefusal) → page_state_of page.place ≡ stage.Resident → OnOk result (left mark page.place ≡ Ok page'.place) → IfErr result (λ refusal. left mark page.place ≡ Err refusal) → page'.origin ≡ page.origin → Leaves mark page page'
  leaves {U} mark page page' result is ok err origin = by_place page.place is (told result ok err)
    where
      told : (result : Result U LeaveRefusal) → OnOk result (left mark page.place ≡ Ok page'.place) → IfErr result (λ refusal. left mark page.place ≡ Err refusal) → (left mark page.place ≡ Ok page'.place) ⊎ ((refusal : LeaveRefusal) × (left mark page.place ≡ Err refusal))
      told (Ok u) ok err = inl ok
      told (Err refusal) ok err = inr (refusal, err)

      by_place : (place : Place S) → page_state_of place ≡ stage.Resident → (left mark place ≡ Ok page'.place) ⊎ ((refusal : LeaveRefusal) × (left mark place ≡ Err refusal)) → IfResident place (λ frame slot. page' ≡ record page { place = Leaving frame (settled slot) mark })
      by_place Fresh is told = cc
      by_place (Resident frame slot) is (inl ok) =
          let place : Leaving frame (settled slot) mark ≡ page'.place = cc in
          ap (λ o. record page { origin = o; place = page'.place }) origin ∙ ap (λ p. record page { place = p }) (sym place)
      by_place (Resident frame slot) is (inr err) = let clash = err.1 in cc
      by_place (Leaving frame slot old) is told = cc
      by_place (Saving frame mark) is told = cc
      by_place (Away slot) is told = cc
      by_place Purged is told = cc

  -- what `Leaves` says, with the page's frame and slot
  pub record Left (mark : Bool) (page page' : PageValue S) : Type 0 where
    pub frame : FrameValue
    pub slot : Keeping S
    pub was : page ≡ record { origin = page.origin; place = Resident frame slot }
    pub is : page' ≡ record { origin = page.origin; place = Leaving frame (settled slot) mark }

  pub left_from : (mark : Bool) (page page' : PageValue S) → Leaves mark page page' → Left mark page page'
  left_from mark page page' how = by_place page.place refl how
    where
      by_place : (place : Place S) → page.place ≡ place → IfResident place (λ frame slot. page' ≡ record page { place = Leaving frame (settled slot) mark }) → Left mark page page'
      by_place Fresh at how = absurd how
      by_place (Resident frame slot) at how = record { frame = frame; slot = slot; was = ap (λ p. record page { place = p }) at; is = how }
      by_place (Leaving frame slot old) at how = absurd how
      by_place (Saving frame mark) at how = absurd how
      by_place (Away slot) at how = absurd how
      by_place Purged at how = absurd how

  module _ {held : S → List ℕ} {honest : Type 0} {pages pages' : List (ℕ × PageValue S)} {tables : List (List ℕ)} {caches : List (List Translation)} (tables' : List (List ℕ)) (number : ℕ) (small : number < 2 ^ 20) (holds : Holds held honest pages tables caches) (resident : IsResident pages number) (changes : ChangesPage pages pages' number (record { origin = resident.origin; place = Leaving resident.frame (settled resident.slot) (dirty_of (entry_at tables number)) })) (entries : ChangesEntry tables tables' number (unmapped_entry (entry_at tables number))) (same : SameTables tables tables') where
    abbrev old_entry : Entry
    old_entry = entry_at tables number

    unmapped_is : unmapped_entry old_entry ≡ blank
    unmapped_is = ap unmapped_entry (entry_resident number small holds resident) ∙ unmapped_entry-page_entry resident.frame.number resident.origin.rights old_entry.accessed old_entry.dirty

    dirty_is : dirty_of old_entry ≡ old_entry.dirty
    dirty_is = ap dirty_of (entry_resident number small holds resident) ∙ dirty_of-page_entry resident.frame.number resident.origin.rights old_entry.accessed old_entry.dirty

    -- it is unmapped
    pub unmapped : ChangesEntry tables tables' number blank
    unmapped q in_range = entries q in_range ∙ ap (λ u. if q == number then u else entry_at tables q) unmapped_is

    abbrev page : PageValue S
    page = record { origin = resident.origin; place = Resident resident.frame resident.slot }

    abbrev page_now : PageValue S
    page_now = record { origin = resident.origin; place = Leaving resident.frame (settled resident.slot) (dirty_of old_entry) }

    seen_then : seen_at pages' number ≡ Some (seen_of page_now)
    seen_then = ap (option_map seen_of) (changes.pages number ∙ choice_here number (Some page_now) (page_at pages number))

    backed_now : Backed held old_entry.dirty page → Backed held false page_now
    backed_now was =
        rw dirty_is (λ unchanged. was (ap (λ b. old_entry.dirty || b) (sym (unbacked_settled resident.slot)) ∙ unchanged) ∙ sym (backing_settled held resident.origin.bytes resident.slot))

    constant_now : IsConstant old_entry.dirty page → IsConstant false page_now
    constant_now was = λ fixed. by_slot resident.slot (was fixed)
      where
        by_slot : (slot : Keeping S) → HoldsOrigin old_entry.dirty resident.origin.bytes resident.frame slot → HoldsOrigin (dirty_of old_entry) resident.origin.bytes resident.frame (settled slot)
        by_slot NoSlot holds_origin = (dirty_is ∙ holds_origin.0, holds_origin.1)
        by_slot (Saved copy) none = absurd none
        by_slot (Unbacked own) none = absurd none
        by_slot (Cleaning own) none = absurd none
        by_slot CopyOut none = absurd none

    change : Change held honest pages pages' tables tables' number page_now blank
    change =
        record {
          small = small;
          changes = changes;
          entry = unmapped;
          kept = λ q in_range has. same q in_range ∙ has;
          tabled = λ framed. same number small ∙ holds.tabled number page small resident.found refl;
          mapped = record { entry = refl; readable = λ rights same. (holds.agree.mapped number small).readable rights (ap rights_seen (seen_resident number small holds resident) ∙ same) };
          backed = λ is_honest. backed_now (holds.backed is_honest number page small resident.found);
          constant = constant_now (holds.constant number page small resident.found);
        }

    stays : Stays (seen_at pages number) (seen_at pages' number) old_entry (entry_at tables' number)
    stays =
        record {
          frame = ap frame_seen seen_then ∙ sym (ap frame_seen (seen_resident number small holds resident));
          rights = ap rights_seen seen_then ∙ sym (ap rights_seen (seen_resident number small holds resident));
          changed = λ was.
              ap (λ s. takes_stores s (entry_at tables' number)) seen_then ∙ ap (λ d. d || is_loose (settled resident.slot)) dirty_is
              ∙ ap (λ l. old_entry.dirty || l) (loose_settled resident.slot) ∙ sym (ap (λ s. takes_stores s old_entry) (seen_resident number small holds resident)) ∙ was;
        }

    -- and everything goes together still, once its translations are doomed
    pub begun_to_leave : Holds held honest pages' tables' (map (doomed number) caches)
    begun_to_leave = Holds-doomed change caches holds stays

  -- the same of a change as it is told
  module _ {pages pages' : List (ℕ × PageValue S)} {number : ℕ} {mark : Bool} (told : ChangesBy (Leaves mark) pages pages' number) where
    abbrev pub left_now : Left mark told.page told.page'
    left_now = left_from mark told.page told.page' told.how

    abbrev pub resident_told : IsResident pages number
    resident_told = record { origin = told.page.origin; frame = left_now.frame; slot = left_now.slot; found = told.found ∙ ap Some left_now.was }

    pub changes_told : ChangesPage pages pages' number (record { origin = resident_told.origin; place = Leaving resident_told.frame (settled resident_told.slot) mark })
    changes_told = subst (λ p. ChangesPage pages pages' number p) left_now.is told.changes

    -- and what the memory holds stays
    pub memory_told : (held : S → List ℕ) → flat_pages held pages' ≡ flat_pages held pages
    memory_told held = memory_stays held pages pages' number told.page told.page' told.found (ap (flat_page held) left_now.is ∙ sym (ap (flat_page held) left_now.was)) told.changes

-- the same copies are out, each with the bit that tells of a store since
module _ {S : Type 0} {held : S → List ℕ} {honest : Type 0} (old new : PagedValue S) (number : ℕ) (small : number < 2 ^ 20) (holds : Holds held honest old.pages old.tables old.caches) where
  kept_told : {A : Type 0} (slot : Keeping S) (told : A) → if_out (settled slot) told ≡ if_out slot told
  kept_told NoSlot told = refl
  kept_told (Saved copy) told = refl
  kept_told (Unbacked own) told = refl
  kept_told (Cleaning own) told = refl
  kept_told CopyOut told = refl

  pub leaving_copies : ChangesBy (Leaves (dirty_of (entry_at old.tables number))) old.pages new.pages number → ChangesEntry old.tables new.tables number (unmapped_entry (entry_at old.tables number)) → LeavesCopies old new
  leaving_copies told entries =
      let mark = dirty_of (entry_at old.tables number) in
      let left = left_from mark told.page told.page' told.how in
      let resident : IsResident old.pages number = record { origin = told.page.origin; frame = left.frame; slot = left.slot; found = told.found ∙ ap Some left.was } in
      let old_entry = entry_at old.tables number in
      let bit : mark ≡ old_entry.dirty = ap dirty_of (entry_resident number small holds resident) ∙ dirty_of-page_entry left.frame.number told.page.origin.rights old_entry.accessed old_entry.dirty in
      moved_copies (Leaves mark) old new number told (other_bits number _ old.tables new.tables entries) (Resident left.frame left.slot) (Leaving left.frame (settled left.slot) mark)
      (ap (λ (p : PageValue S). p.place) left.was) (ap (λ (p : PageValue S). p.place) left.is)
      (ap (λ b. if_out (settled left.slot) (b, left.frame.bytes)) bit ∙ kept_told left.slot (old_entry.dirty, left.frame.bytes))
