-- A page is cleaned while it is used.
use Rattle.std.specs.Prelude.{◌≡◌, ℕ, ◌+◌, ◌^◌, ◌<◌, ◌≤◌, Bool, true, false, ◌||◌, ◌&&◌, Option, Some, None, option_map, Result, Ok, Err, is_some, List, map, refl, ◌⊎◌, IfErr, OnOk, OnErr}
use Rattle.std.proofs.Common.{sym, ap, ◌∙◌, subst, inl, inr, true≢false, arith}
use Rattle.std.proofs.lemmas.Bool.Decides.{leb_tells}
use Rattle.frame_pool.specs.FrameValue.{FrameValue}
use Rattle.page_memory.specs.Entries.{place_of, value_at, with_value}
use Rattle.page_memory.specs.declared.rights.Rights.{Rights}
use Rattle.page_store.specs.Cleaning.{begun, begun_keeping, resident_with, CopiedPage, copied_clean, copy_resident, copy_cleaning, copy_unmarked, copy_for_spare, IfCopyOut, keeping, EndsCleaning}
use Rattle.page_store.specs.JobValue.{SavedValue}
use Rattle.page_store.specs.Keeping.{Keeping, NoSlot, Saved, Unbacked, Cleaning, CopyOut, is_unbacked, is_loose}
use Rattle.page_store.specs.Moves.{copy_of}
use Rattle.page_store.specs.PageValue.{PageValue, Place, Fresh, Resident, Leaving, Saving, Away, Purged, frame_of, shown, changed, Backed}
use Rattle.page_store.specs.declared.answer.CleanCopy.{CleanCopy}
use Rattle.page_store.specs.declared.answer.Cleaned.{Cleaned}
use Rattle.page_store.specs.declared.answer.Cleaned.TheVariants as end
use Rattle.page_store.specs.declared.refusal.CleanRefusal.{CleanRefusal}
use Rattle.sv32_table.specs.Entry.{Entry, page_entry}
use Rattle.sv32_table.specs.EntryAt.{entry_at, ChangesEntry, SameTables, dirty_of, undirtied_entry}
use Rattle.sv32_table.proofs.EntryLaws.{undirtied_entry-page_entry, dirty_of-page_entry}
use Rattle.tlb_core.specs.declared.translation.Translation.{Translation}
use Rattle.tlb_core.specs.Cache.{doomed}
use Rattle.paged_memory.specs.Calls.{IsResident, ChangesBy}
use Rattle.paged_memory.specs.cleaning.Cleaning.{settles, StartsClean, RefusesClean, Copies, CopiesAt, IsCopyAt, IsCopyOf, EndsCleaningOf, is_changed_resident}
use Rattle.paged_memory.specs.Counting.{page_passes, is_resident_place}
use Rattle.paged_memory.specs.Paged.{standing_of, seen_of, page_at, seen_at, flat_page, flat_pages, Holds, HoldsOrigin, IsConstant, IsUntouched, ChangesPage}
use Rattle.paged_memory.specs.Seen.{Seen, Standing, entry_seen, entry_standing, frame_seen, frame_standing, rights_seen, is_dirty, dirty_standing, is_loose_standing, takes_stores, is_used, used_standing}
use Rattle.paged_memory.specs.Seen as seen
use Rattle.paged_memory.specs.Soundness.{is_marked}
use Rattle.paged_memory.proofs.access_laws.CallLaws.{entry_resident, seen_resident, readable_resident, mapped_resident}
use Rattle.paged_memory.proofs.Holding.{marked_by_none}
use Rattle.paged_memory.proofs.move_laws.MovesLaws.{holds_same, with_same}
use Rattle.paged_memory.proofs.move_laws.PagedLaws.{Change, choice_here, changes_no_entry, changed_by, page_at-place, page_at-nowhere, Holds-held, Holds-unmarked, Holds-doomed, memory_stays}

always : (b : Bool) → (b || true) ≡ true
always true = refl
always false = refl

or_weaker : (a b c : Bool) → (b ≡ true → c ≡ true) → (a || b) ≡ true → (a || c) ≡ true
or_weaker true b c more h = refl
or_weaker false b c more h = more h

-- an entry of a page tells its D
dirty_by_seen : (page : Option Seen) (e : Entry) → e ≡ entry_seen page e.accessed e.dirty → dirty_of e ≡ e.dirty
unfolding dirty_of
dirty_by_seen None e is = ap dirty_of is ∙ sym (ap (λ (u : Entry). u.dirty) is)
dirty_by_seen (Some page) e is = by_standing page.rights page.standing is
  where
    by_standing : (rights : Rights) (standing : Standing) → e ≡ entry_standing rights standing e.accessed e.dirty → dirty_of e ≡ e.dirty
    by_standing rights (seen.Resident frame loose) is = ap dirty_of is ∙ dirty_of-page_entry frame rights e.accessed e.dirty
    by_standing rights (seen.Leaving frame mark loose) is = ap dirty_of is ∙ sym (ap (λ (u : Entry). u.dirty) is)
    by_standing rights seen.Elsewhere is = ap dirty_of is ∙ sym (ap (λ (u : Entry). u.dirty) is)

module _ {S : Type 0} where
  -- ---- a page that keeps something else now, and is where it was

  pub record Alike (place place' : Place S) : Type 0 where
    pub frame : frame_standing (standing_of place') ≡ frame_standing (standing_of place)
    pub dirty : (e : Entry) → dirty_standing (standing_of place') e ≡ dirty_standing (standing_of place) e
    pub used : (e : Entry) → used_standing (standing_of place') e ≡ used_standing (standing_of place) e
    pub entry : (rights : Rights) (accessed dirty : Bool) → entry_standing rights (standing_of place') accessed dirty ≡ entry_standing rights (standing_of place) accessed dirty
    pub framed : is_some (frame_of place') ≡ is_some (frame_of place)
    pub shown : (held : S → List ℕ) (origin : List ℕ) → shown held origin place' ≡ shown held origin place

  keeping_alike : (now : Keeping S) (place : Place S) → Alike place (keeping now place)
  keeping_alike now Fresh = record { frame = refl; dirty = λ e. refl; used = λ e. refl; entry = λ r a d. refl; framed = refl; shown = λ h o. refl }
  keeping_alike now (Resident frame slot) = record { frame = refl; dirty = λ e. refl; used = λ e. refl; entry = λ r a d. refl; framed = refl; shown = λ h o. refl }
  keeping_alike now (Leaving frame slot mark) = record { frame = refl; dirty = λ e. refl; used = λ e. refl; entry = λ r a d. refl; framed = refl; shown = λ h o. refl }
  keeping_alike now (Saving frame mark) = record { frame = refl; dirty = λ e. refl; used = λ e. refl; entry = λ r a d. refl; framed = refl; shown = λ h o. refl }
  keeping_alike now (Away copy) = record { frame = refl; dirty = λ e. refl; used = λ e. refl; entry = λ r a d. refl; framed = refl; shown = λ h o. refl }
  keeping_alike now Purged = record { frame = refl; dirty = λ e. refl; used = λ e. refl; entry = λ r a d. refl; framed = refl; shown = λ h o. refl }

  module _ {held : S → List ℕ} {honest : Type 0} {pages pages' : List (ℕ × PageValue S)} {tables : List (List ℕ)} {caches : List (List Translation)} (number : ℕ) (small : number < 2 ^ 20) (holds : Holds held honest pages tables caches) (page : PageValue S) (place' : Place S) (alike : Alike page.place place') (found : page_at pages number ≡ Some page) (changes : ChangesPage pages pages' number (record page { place = place' })) (backed : honest → Backed held (entry_at tables number).dirty (record page { place = place' })) (constant : IsConstant (entry_at tables number).dirty (record page { place = place' })) where
    abbrev e : Entry
    e = entry_at tables number

    seen_then : seen_at pages number ≡ Some (seen_of page)
    seen_then = ap (option_map seen_of) found

    abbrev page_now : PageValue S
    page_now = record page { place = place' }

    seen_now : seen_at pages' number ≡ Some (seen_of page_now)
    seen_now = ap (option_map seen_of) (changes.pages number ∙ choice_here number (Some page_now) (page_at pages number))

    kept_change : Change held honest pages pages' tables tables number page_now e
    kept_change =
        record {
          small = small;
          changes = changes;
          entry = changes_no_entry tables number;
          kept = λ q in_range has. has;
          tabled = λ framed. holds.tabled number page small found (sym alike.framed ∙ framed);
          mapped = record {
            entry = (holds.agree.mapped number small).entry ∙ ap (λ s. entry_seen s e.accessed e.dirty) seen_then ∙ sym (alike.entry page.origin.rights e.accessed e.dirty);
            readable = λ rights same. (holds.agree.mapped number small).readable rights (ap rights_seen seen_then ∙ same);
          };
          backed = backed;
          constant = constant;
        }

    used_on : is_used (seen_at pages number) e ≡ true → is_used (seen_at pages' number) e ≡ true
    used_on was = ap (λ s. is_used s e) seen_now ∙ alike.used e ∙ sym (ap (λ s. is_used s e) seen_then) ∙ was

    frame_on : frame_seen (seen_at pages' number) ≡ frame_seen (seen_at pages number)
    frame_on = ap frame_seen seen_now ∙ alike.frame ∙ sym (ap frame_seen seen_then)

    rights_on : rights_seen (seen_at pages' number) ≡ rights_seen (seen_at pages number)
    rights_on = ap rights_seen seen_now ∙ sym (ap rights_seen seen_then)

    -- everything goes together still, where stores may reach it as they might, or no translation of it has the dirty mark
    pub holds_looser : (is_loose_standing (standing_of page.place) ≡ true → is_loose_standing (standing_of place') ≡ true) → Holds held honest pages' tables caches
    holds_looser looser =
        Holds-held kept_change caches holds
        (record {
          frame = frame_on;
          rights = rights_on;
          changed = λ was.
              ap (λ s. takes_stores s e) seen_now ∙ ap (λ d. d || is_loose_standing (standing_of place')) (alike.dirty e)
              ∙ or_weaker (dirty_standing (standing_of page.place) e) (is_loose_standing (standing_of page.place)) (is_loose_standing (standing_of place')) looser (sym (ap (λ s. takes_stores s e) seen_then) ∙ was);
        })
        used_on

    pub holds_unmarked : is_marked number caches ≡ false → Holds held honest pages' tables caches
    holds_unmarked none = Holds-unmarked kept_change caches holds (marked_by_none number caches none) frame_on rights_on used_on

    pub memory_kept : flat_pages held pages' ≡ flat_pages held pages
    memory_kept =
        memory_stays held pages pages' number page page_now found
        (ap (λ b. record { rights = page.origin.rights; bytes = b }) (alike.shown held page.origin.bytes)) changes

  -- ---- a cleaning begins

  record Begun (dirty : Bool) (page page' : PageValue S) : Type 0 where
    pub frame : FrameValue
    pub slot : Keeping S
    pub own : Option S
    pub was : page ≡ record { origin = page.origin; place = Resident frame slot }
    pub is : page' ≡ record { origin = page.origin; place = Resident frame (Cleaning own) }
    pub touched : (origin : List ℕ) → HoldsOrigin dirty origin frame slot → ⊥

  begun_page : (ended dirty : Bool) (page page' : PageValue S) → StartsClean ended dirty page page' → Begun dirty page page'
  begun_page ended dirty page page' starts = by_place page.place refl starts.place
    where
      told : (frame : FrameValue) (slot : Keeping S) (own : Option S) (d : Bool) → page.place ≡ Resident frame slot → ◌≡◌ {A = Result (Place S) CleanRefusal} (Ok (Resident frame (Cleaning own))) (Ok page'.place) → ((origin : List ℕ) → HoldsOrigin d origin frame slot → ⊥) → Begun d page page'
      told frame slot own d at is touched =
          let place : Resident frame (Cleaning own) ≡ page'.place = cc in
          record {
            frame = frame;
            slot = slot;
            own = own;
            was = ap (λ p. record page { place = p }) at;
            is = ap (λ o. record { origin = o; place = page'.place }) starts.origin ∙ ap (λ p. record { origin = page.origin; place = p }) (sym place);
            touched = touched;
          }

      begun_slot : (frame : FrameValue) (slot : Keeping S) (over d : Bool) → page.place ≡ Resident frame slot → resident_with frame (begun_keeping over d slot) ≡ Ok page'.place → Begun d page page'
      begun_slot frame NoSlot over true at is = told frame NoSlot None true at is (λ origin h. true≢false h.0)
      begun_slot frame NoSlot over false at is = cc
      begun_slot frame (Saved copy) over true at is = told frame (Saved copy) (Some copy.slot) true at is (λ origin h. h)
      begun_slot frame (Saved copy) over false at is = cc
      begun_slot frame (Unbacked own) over d at is = told frame (Unbacked own) own d at is (λ origin h. h)
      begun_slot frame (Cleaning own) true d at is = told frame (Cleaning own) own d at is (λ origin h. h)
      begun_slot frame (Cleaning own) false d at is = cc
      begun_slot frame CopyOut over d at is = cc

      by_place : (place : Place S) → page.place ≡ place → begun ended dirty place ≡ Ok page'.place → Begun dirty page page'
      by_place Fresh at is = cc
      by_place (Resident frame slot) at is = begun_slot frame slot ended dirty at is
      by_place (Leaving frame slot mark) at is = cc
      by_place (Saving frame mark) at is = cc
      by_place (Away copy) at is = cc
      by_place Purged at is = cc

  module _ {held : S → List ℕ} {honest : Type 0} {pages pages' : List (ℕ × PageValue S)} {tables : List (List ℕ)} {caches : List (List Translation)} (tables' : List (List ℕ)) (number : ℕ) (small : number < 2 ^ 20) (holds : Holds held honest pages tables caches) (ended dirty : Bool) (bit : dirty ≡ dirty_of (entry_at tables number)) (told : ChangesBy (StartsClean ended dirty) pages pages' number) (entries : ChangesEntry tables tables' number (undirtied_entry (entry_at tables number))) (same : SameTables tables tables') where
    abbrev starts : Begun dirty told.page told.page'
    starts = begun_page ended dirty told.page told.page' told.how

    abbrev begun_resident : IsResident pages number
    begun_resident = record { origin = told.page.origin; frame = starts.frame; slot = starts.slot; found = told.found ∙ ap Some starts.was }

    bit_then : dirty ≡ (entry_at tables number).dirty
    bit_then = bit ∙ dirty_by_seen (seen_at pages number) (entry_at tables number) (holds.agree.mapped number small).entry

    abbrev page_clean : PageValue S
    page_clean = record { origin = told.page.origin; place = Resident starts.frame (Cleaning starts.own) }

    abbrev e_then : Entry
    e_then = entry_at tables number

    cleared : undirtied_entry e_then ≡ page_entry starts.frame.number told.page.origin.rights e_then.accessed false
    cleared = ap undirtied_entry (entry_resident number small holds begun_resident) ∙ undirtied_entry-page_entry starts.frame.number told.page.origin.rights e_then.accessed e_then.dirty

    changes_clean : ChangesPage pages pages' number page_clean
    changes_clean = subst (ChangesPage pages pages' number) starts.is told.changes

    clean_change : Change held honest pages pages' tables tables' number page_clean (undirtied_entry e_then)
    clean_change =
        record {
          small = small;
          changes = changes_clean;
          entry = entries;
          kept = λ q in_range has. same q in_range ∙ has;
          tabled = λ framed. same number small ∙ holds.tabled number _ small begun_resident.found refl;
          mapped = mapped_resident told.page.origin starts.frame (Cleaning starts.own) e_then.accessed false cleared (readable_resident number small holds begun_resident);
          backed = λ is_honest unchanged. absurd (true≢false (sym (always (undirtied_entry e_then).dirty) ∙ unchanged));
          constant = λ fixed. absurd (starts.touched told.page.origin.bytes (subst (λ d. HoldsOrigin d told.page.origin.bytes starts.frame starts.slot) (sym bit_then) (holds.constant number _ small begun_resident.found fixed)));
        }

    seen_clean : seen_at pages' number ≡ Some (seen_of page_clean)
    seen_clean = ap (option_map seen_of) (changes_clean.pages number ∙ choice_here number (Some page_clean) (page_at pages number))

    -- everything goes together still, once its translations are doomed
    pub holds_begun : Holds held honest pages' tables' (map (doomed number) caches)
    holds_begun =
        Holds-doomed clean_change caches holds (record {
          frame = ap frame_seen seen_clean ∙ sym (ap frame_seen (seen_resident number small holds begun_resident));
          rights = ap rights_seen seen_clean ∙ sym (ap rights_seen (seen_resident number small holds begun_resident));
          changed = λ was. ap (λ s. takes_stores s (entry_at tables' number)) seen_clean ∙ always (entry_at tables' number).dirty;
        })

    pub memory_begun : flat_pages held pages' ≡ flat_pages held pages
    memory_begun = memory_stays held pages pages' number told.page told.page' told.found (ap (flat_page held) starts.is ∙ sym (ap (flat_page held) starts.was)) told.changes

  -- a page that refuses is as it was
  pub refused_begin : {U : Type 0} (pages : List (ℕ × PageValue S)) (place : ℕ) (page page' : PageValue S) (result : Result U CleanRefusal) → value_at place pages ≡ Some page → OnErr result (page' ≡ page) → OnErr result (with_value pages place page' ≡ pages)
  refused_begin pages place page page' (Ok u) value same = same
  refused_begin pages place page page' (Err refusal) value same = ap (with_value pages place) same ∙ with_same pages place page value

  pub refused_at : {U : Type 0} (ended dirty : Bool) (pages : List (ℕ × PageValue S)) (number place : ℕ) (page : PageValue S) (result : Result U CleanRefusal) → place_of number pages ≡ Some place → value_at place pages ≡ Some page → IfErr result (λ refusal. begun ended dirty page.place ≡ Err refusal) → IfErr result (RefusesClean ended dirty (page_at pages number))
  refused_at ended dirty pages number place page (Ok u) at value told = told
  refused_at ended dirty pages number place page (Err refusal) at value told = subst (λ o. RefusesClean ended dirty o refusal) (sym (page_at-place pages number place page at value)) told

  pub begun_at : {U : Type 0} (ended dirty : Bool) (pages : List (ℕ × PageValue S)) (number place : ℕ) (page page' : PageValue S) (result : Result U CleanRefusal) → place_of number pages ≡ Some place → value_at place pages ≡ Some page → page'.origin ≡ page.origin → OnOk result (begun ended dirty page.place ≡ Ok page'.place) → OnOk result (ChangesBy (StartsClean ended dirty) pages (with_value pages place page') number)
  begun_at ended dirty pages number place page page' (Ok u) at value origin told = changed_by pages number place page page' at value (record { origin = origin; place = told })
  begun_at ended dirty pages number place page page' (Err refusal) at value origin told = told

  -- ---- a copy goes out

  -- the page is where it was, and keeps something else: stores may reach it as they might; or no cache has its dirty mark
  record Recopied (marked : Bool) (place place' : Place S) : Type 0 where
    pub now : Keeping S
    pub frame : FrameValue
    pub slot : Keeping S
    pub was : place ≡ Resident frame slot
    pub is : place' ≡ Resident frame now
    pub unbacked : is_unbacked now ≡ true
    pub reach : (is_loose now ≡ true) ⊎ (marked ≡ false)
    pub touched : (d : Bool) (origin : List ℕ) → HoldsOrigin d origin frame slot → ⊥

  abbrev Recopies : Bool → Place S → Place S → Type 0
  Recopies marked place place' = (place' ≡ place) ⊎ Recopied marked place place'

  module _ (process vpn : ℕ) where
    by_spare : (frame : FrameValue) (own spare : Option S) → Recopies false (Resident frame (Cleaning own)) (copy_for_spare process vpn frame spare).0
    by_spare frame own None = inr (record { now = Unbacked None; frame = frame; slot = Cleaning own; was = refl; is = refl; unbacked = refl; reach = inl refl; touched = λ d origin h. h })
    by_spare frame own (Some slot) = inr (record { now = CopyOut; frame = frame; slot = Cleaning own; was = refl; is = refl; unbacked = refl; reach = inr refl; touched = λ d origin h. h })

    by_own : (frame : FrameValue) (own spare : Option S) → Recopies false (Resident frame (Cleaning own)) (copy_unmarked process vpn frame own spare).0
    by_own frame None spare = by_spare frame None spare
    by_own frame (Some slot) spare = inr (record { now = CopyOut; frame = frame; slot = Cleaning (Some slot); was = refl; is = refl; unbacked = refl; reach = inr refl; touched = λ d origin h. h })

    by_marks : (frame : FrameValue) (own : Option S) (dirty marked : Bool) (spare : Option S) → Recopies marked (Resident frame (Cleaning own)) (copy_cleaning process vpn frame own dirty marked spare).0
    by_marks frame own true marked spare = inr (record { now = Unbacked own; frame = frame; slot = Cleaning own; was = refl; is = refl; unbacked = refl; reach = inl refl; touched = λ d origin h. h })
    by_marks frame own false true spare = inl refl
    by_marks frame own false false spare = by_own frame own spare

    by_slot : (frame : FrameValue) (slot : Keeping S) (dirty marked : Bool) (spare : Option S) → Recopies marked (Resident frame slot) (copy_resident process vpn frame slot dirty marked spare).0
    by_slot frame NoSlot dirty marked spare = inl refl
    by_slot frame (Saved copy) dirty marked spare = inl refl
    by_slot frame (Unbacked own) dirty marked spare = inl refl
    by_slot frame (Cleaning own) dirty marked spare = by_marks frame own dirty marked spare
    by_slot frame CopyOut dirty marked spare = inl refl

    recopies : (place : Place S) (dirty marked : Bool) (spare : Option S) → Recopies marked place (copied_clean process vpn dirty marked place spare).0
    recopies Fresh dirty marked spare = inl refl
    recopies (Resident frame slot) dirty marked spare = by_slot frame slot dirty marked spare
    recopies (Leaving frame slot mark) dirty marked spare = inl refl
    recopies (Saving frame mark) dirty marked spare = inl refl
    recopies (Away copy) dirty marked spare = inl refl
    recopies Purged dirty marked spare = inl refl

  -- a page is as it was where its cleaning neither ended nor its copy went out
  module _ (process vpn : ℕ) where
    unsettled_spare : (frame : FrameValue) (own spare : Option S) → settles (copy_unmarked process vpn frame own spare).1.1 ≡ false → (copy_unmarked process vpn frame own spare).0 ≡ Resident frame (Cleaning own)
    unsettled_spare frame None None h = cc
    unsettled_spare frame None (Some slot) h = cc
    unsettled_spare frame (Some slot) spare h = cc

    unsettled_marks : (frame : FrameValue) (own : Option S) (dirty marked : Bool) (spare : Option S) → settles (copy_cleaning process vpn frame own dirty marked spare).1.1 ≡ false → (copy_cleaning process vpn frame own dirty marked spare).0 ≡ Resident frame (Cleaning own)
    unsettled_marks frame own true marked spare h = cc
    unsettled_marks frame own false true spare h = refl
    unsettled_marks frame own false false spare h = unsettled_spare frame own spare h

    unsettled_slot : (frame : FrameValue) (slot : Keeping S) (dirty marked : Bool) (spare : Option S) → settles (copy_resident process vpn frame slot dirty marked spare).1.1 ≡ false → (copy_resident process vpn frame slot dirty marked spare).0 ≡ Resident frame slot
    unsettled_slot frame NoSlot dirty marked spare h = refl
    unsettled_slot frame (Saved copy) dirty marked spare h = refl
    unsettled_slot frame (Unbacked own) dirty marked spare h = refl
    unsettled_slot frame (Cleaning own) dirty marked spare h = unsettled_marks frame own dirty marked spare h
    unsettled_slot frame CopyOut dirty marked spare h = refl

    unsettled_place : (dirty marked : Bool) (place : Place S) (spare : Option S) → settles (copied_clean process vpn dirty marked place spare).1.1 ≡ false → (copied_clean process vpn dirty marked place spare).0 ≡ place
    unsettled_place dirty marked Fresh spare h = refl
    unsettled_place dirty marked (Resident frame slot) spare h = unsettled_slot frame slot dirty marked spare h
    unsettled_place dirty marked (Leaving frame slot mark) spare h = refl
    unsettled_place dirty marked (Saving frame mark) spare h = refl
    unsettled_place dirty marked (Away copy) spare h = refl
    unsettled_place dirty marked Purged spare h = refl

    pub unsettled_page : (dirty marked : Bool) (spare spare' : Option S) (answer : CleanCopy S) (page page' : PageValue S) → page'.origin ≡ page.origin → (page'.place, (spare', answer)) ≡ copied_clean process vpn dirty marked page.place spare
        → settles answer ≡ false → page' ≡ page
    unsettled_page dirty marked spare spare' answer page page' origin how unsettled =
        let place : page'.place ≡ page.place = ap (λ (t : CopiedPage S). t.0) how ∙ unsettled_place dirty marked page.place spare (ap (λ (t : CopiedPage S). settles t.1.1) (sym how) ∙ unsettled) in
        ap (λ o. record { origin = o; place = page'.place }) origin ∙ ap (λ p. record { origin = page.origin; place = p }) place

  module _ {held : S → List ℕ} {honest : Type 0} {pages : List (ℕ × PageValue S)} {tables : List (List ℕ)} {caches : List (List Translation)} (process number : ℕ) (small : number < 2 ^ 20) (holds : Holds held honest pages tables caches) (dirty : Bool) (spare spare' : Option S) (answer : CleanCopy S) where
    abbrev Copying : PageValue S → PageValue S → Type 0
    Copying = Copies process number dirty (is_marked number caches) spare spare' answer

    module _ (pages' : List (ℕ × PageValue S)) (told : ChangesBy Copying pages pages' number) where
      went : Recopies (is_marked number caches) told.page.place told.page'.place
      went = subst (Recopies (is_marked number caches) told.page.place) (sym (ap (λ (t : CopiedPage S). t.0) told.how.1)) (recopies process number told.page.place dirty (is_marked number caches) spare)

      same_page : told.page'.place ≡ told.page.place → told.page' ≡ told.page
      same_page stays = ap (λ o. record { origin = o; place = told.page'.place }) told.how.0 ∙ ap (λ p. record { origin = told.page.origin; place = p }) stays

      now_page : told.page' ≡ record told.page { place = told.page'.place }
      now_page = ap (λ o. record { origin = o; place = told.page'.place }) told.how.0

      changes_copied : ChangesPage pages pages' number (record told.page { place = told.page'.place })
      changes_copied = subst (ChangesPage pages pages' number) now_page told.changes

      module _ (gone : Recopied (is_marked number caches) told.page.place told.page'.place) where
        alike_copied : Alike told.page.place told.page'.place
        alike_copied = subst (λ p. Alike p told.page'.place) (sym gone.was) (subst (Alike (Resident gone.frame gone.slot)) (sym gone.is) (keeping_alike gone.now (Resident gone.frame gone.slot)))

        backed_copied : honest → Backed held (entry_at tables number).dirty (record told.page { place = told.page'.place })
        backed_copied is_honest unchanged =
            absurd (true≢false (sym (always (entry_at tables number).dirty) ∙ sym (ap (λ b. (entry_at tables number).dirty || b) gone.unbacked) ∙ sym (ap (changed (entry_at tables number).dirty) gone.is) ∙ unchanged))

        constant_copied : IsConstant (entry_at tables number).dirty (record told.page { place = told.page'.place })
        constant_copied fixed = absurd (gone.touched _ told.page.origin.bytes (subst (IsUntouched _ told.page.origin.bytes) gone.was (holds.constant number told.page small told.found fixed)))

        holds_gone : (is_loose gone.now ≡ true) ⊎ (is_marked number caches ≡ false) → Holds held honest pages' tables caches
        holds_gone (inl loose) =
            holds_looser number small holds told.page told.page'.place alike_copied told.found changes_copied backed_copied constant_copied
            (λ _. ap (λ p. is_loose_standing (standing_of p)) gone.is ∙ loose)
        holds_gone (inr none) = holds_unmarked number small holds told.page told.page'.place alike_copied told.found changes_copied backed_copied constant_copied none

        memory_gone : flat_pages held pages' ≡ flat_pages held pages
        memory_gone = memory_kept number small holds told.page told.page'.place alike_copied told.found changes_copied backed_copied constant_copied

      holds_told : Holds held honest pages' tables caches
      holds_told =
          elim went [
            | inl stays ↦ holds_same number small holds pages' told.page told.found (subst (ChangesPage pages pages' number) (same_page stays) told.changes)
            | inr gone ↦ holds_gone gone gone.reach
          ]

      memory_told : flat_pages held pages' ≡ flat_pages held pages
      memory_told =
          elim went [
            | inl stays ↦ memory_stays held pages pages' number told.page told.page' told.found (ap (flat_page held) (same_page stays)) told.changes
            | inr gone ↦ memory_gone gone
          ]

    pub holds_copied : {pages' : List (ℕ × PageValue S)} (o : Option (PageValue S)) → CopiesAt process number dirty (is_marked number caches) spare spare' answer pages pages' o → Holds held honest pages' tables caches
    holds_copied {pages'} (Some page) told = holds_told pages' told
    holds_copied {pages'} None told = subst (λ p. Holds held honest p tables caches) (sym told.1.1) holds

    pub memory_copied : (pages' : List (ℕ × PageValue S)) (o : Option (PageValue S)) → CopiesAt process number dirty (is_marked number caches) spare spare' answer pages pages' o → flat_pages held pages' ≡ flat_pages held pages
    memory_copied pages' (Some page) told = memory_told pages' told
    memory_copied pages' None told = ap (flat_pages held) told.1.1

  -- ---- a copy comes back

  -- no page is mapped where the copy says
  pub copy_nowhere : (process : ℕ) (job : SavedValue S) (dirty : Bool) (pages : List (ℕ × PageValue S)) → place_of job.vpn pages ≡ None → IsCopyOf process job dirty pages → ⊥
  copy_nowhere process job dirty pages none is = subst (IsCopyAt job dirty) (page_at-nowhere pages job.vpn none) is.1.1

  pub ended_there : (process : ℕ) (job : SavedValue S) (dirty : Bool) (pages : List (ℕ × PageValue S)) (place : ℕ) (page page' : PageValue S) → place_of job.vpn pages ≡ Some place → value_at place pages ≡ Some page → page'.origin ≡ page.origin → job.process ≡ process → job.vpn < 2 ^ 20
      → (answer : Cleaned S) → EndsCleaning job dirty page.place page'.place answer → EndsCleaningOf process job dirty pages (with_value pages place page') answer
  ended_there process job dirty pages place page page' at value origin its small (end.WrongPage back) told = (
    told.0,
    (
      ap (with_value pages place) (ap (λ o. record { origin = o; place = page'.place }) origin ∙ ap (λ p. record { origin = page.origin; place = p }) told.1) ∙ with_same pages place page value,
      λ is. told.2 (subst (IsCopyAt job dirty) (page_at-place pages job.vpn place page at value) is.1.1),
    ),
  )
  ended_there process job dirty pages place page page' at value origin its small end.Stored told = (its, (small, changed_by pages job.vpn place page page' at value (origin, told)))
  ended_there process job dirty pages place page page' at value origin its small end.Device told = (its, (small, changed_by pages job.vpn place page page' at value (origin, told)))
  ended_there process job dirty pages place page page' at value origin its small end.Clean told = (its, (small, changed_by pages job.vpn place page page' at value (origin, told)))

  -- stores may not reach a page of which a copy is out unless its bit tells of them
  out_tight : (dirty : Bool) (place : Place S) (P : FrameValue → Bool → Type 0) → IfCopyOut dirty place P → is_loose_standing (standing_of place) ≡ false
  out_tight dirty Fresh P h = absurd h
  out_tight dirty (Resident frame NoSlot) P h = absurd h
  out_tight dirty (Resident frame (Saved copy)) P h = absurd h
  out_tight dirty (Resident frame (Unbacked own)) P h = absurd h
  out_tight dirty (Resident frame (Cleaning own)) P h = absurd h
  out_tight dirty (Resident frame CopyOut) P h = refl
  out_tight dirty (Leaving frame NoSlot mark) P h = absurd h
  out_tight dirty (Leaving frame (Saved copy) mark) P h = absurd h
  out_tight dirty (Leaving frame (Unbacked own) mark) P h = absurd h
  out_tight dirty (Leaving frame (Cleaning own) mark) P h = absurd h
  out_tight dirty (Leaving frame CopyOut mark) P h = refl
  out_tight dirty (Saving frame mark) P h = absurd h
  out_tight dirty (Away copy) P h = absurd h
  out_tight dirty Purged P h = absurd h

  -- nor is it what it began with, with no slot
  out_touched : (dirty d : Bool) (origin : List ℕ) (place : Place S) (P : FrameValue → Bool → Type 0) → IfCopyOut dirty place P → IsUntouched d origin place → ⊥
  out_touched dirty d origin Fresh P h is = h
  out_touched dirty d origin (Resident frame NoSlot) P h is = h
  out_touched dirty d origin (Resident frame (Saved copy)) P h is = h
  out_touched dirty d origin (Resident frame (Unbacked own)) P h is = h
  out_touched dirty d origin (Resident frame (Cleaning own)) P h is = h
  out_touched dirty d origin (Resident frame CopyOut) P h is = is
  out_touched dirty d origin (Leaving frame NoSlot mark) P h is = h
  out_touched dirty d origin (Leaving frame (Saved copy) mark) P h is = h
  out_touched dirty d origin (Leaving frame (Unbacked own) mark) P h is = h
  out_touched dirty d origin (Leaving frame (Cleaning own) mark) P h is = h
  out_touched dirty d origin (Leaving frame CopyOut mark) P h is = is
  out_touched dirty d origin (Saving frame mark) P h is = h
  out_touched dirty d origin (Away copy) P h is = h
  out_touched dirty d origin Purged P h is = h

  -- the page keeps something else, and stores could not reach it
  record Rekept (place place' : Place S) : Type 0 where
    pub now : Keeping S
    pub is : place' ≡ keeping now place
    pub tight : is_loose_standing (standing_of place) ≡ false
    pub touched : (d : Bool) (origin : List ℕ) → IsUntouched d origin place → ⊥

  rekept : (job : SavedValue S) (dirty : Bool) (place place' : Place S) (answer : Cleaned S) → EndsCleaning job dirty place place' answer → (place' ≡ place) ⊎ Rekept place place'
  rekept job dirty place place' (end.WrongPage back) told = inl told.1
  rekept job dirty place place' end.Stored told = inr (record { now = Unbacked (Some job.slot); is = told.1; tight = out_tight dirty place _ told.0; touched = λ d origin. out_touched dirty d origin place _ told.0 })
  rekept job dirty place place' end.Device told = inr (record { now = Unbacked (Some job.slot); is = told.2; tight = out_tight dirty place _ told.0; touched = λ d origin. out_touched dirty d origin place _ told.0 })
  rekept job dirty place place' end.Clean told = inr (record { now = Saved (copy_of job); is = told.2; tight = out_tight dirty place _ told.0; touched = λ d origin. out_touched dirty d origin place _ told.0 })

  module _ {held : S → List ℕ} {honest : Type 0} {pages pages' : List (ℕ × PageValue S)} {tables : List (List ℕ)} {caches : List (List Translation)} (number : ℕ) (small : number < 2 ^ 20) (holds : Holds held honest pages tables caches) (job : SavedValue S) (page page' : PageValue S) (answer : Cleaned S) (found : page_at pages number ≡ Some page) (changes : ChangesPage pages pages' number page') (origin : page'.origin ≡ page.origin) where
    dirty_is : dirty_of (entry_at tables number) ≡ (entry_at tables number).dirty
    dirty_is = dirty_by_seen (seen_at pages number) (entry_at tables number) (holds.agree.mapped number small).entry

    module _ (told : EndsCleaning job (dirty_of (entry_at tables number)) page.place page'.place answer) (backs : honest → Backed held (dirty_of (entry_at tables number)) page → Backed held (dirty_of (entry_at tables number)) page') where
      ended_same : page'.place ≡ page.place → page' ≡ page
      ended_same stays = ap (λ o. record { origin = o; place = page'.place }) origin ∙ ap (λ p. record { origin = page.origin; place = p }) stays

      ended_now : page' ≡ record page { place = page'.place }
      ended_now = ap (λ o. record { origin = o; place = page'.place }) origin

      changes_ended : ChangesPage pages pages' number (record page { place = page'.place })
      changes_ended = subst (ChangesPage pages pages' number) ended_now changes

      backed_ended : honest → Backed held (entry_at tables number).dirty (record page { place = page'.place })
      backed_ended is_honest =
          subst (λ p. Backed held (entry_at tables number).dirty p) ended_now
          (subst (λ d. Backed held d page') dirty_is (backs is_honest (subst (λ d. Backed held d page) (sym dirty_is) (holds.backed is_honest number page small found))))

      module _ (kept : Rekept page.place page'.place) where
        alike_ended : Alike page.place page'.place
        alike_ended = subst (Alike page.place) (sym kept.is) (keeping_alike kept.now page.place)

        constant_ended : IsConstant (entry_at tables number).dirty (record page { place = page'.place })
        constant_ended fixed = absurd (kept.touched _ page.origin.bytes (holds.constant number page small found fixed))

        holds_kept : Holds held honest pages' tables caches
        holds_kept = holds_looser number small holds page page'.place alike_ended found changes_ended backed_ended constant_ended (λ loose. absurd (true≢false (sym loose ∙ kept.tight)))

        memory_ended_kept : flat_pages held pages' ≡ flat_pages held pages
        memory_ended_kept = memory_kept number small holds page page'.place alike_ended found changes_ended backed_ended constant_ended

      pub holds_ended : Holds held honest pages' tables caches
      holds_ended =
          elim (rekept job (dirty_of (entry_at tables number)) page.place page'.place answer told) [
            | inl stays ↦ holds_same number small holds pages' page found (subst (ChangesPage pages pages' number) (ended_same stays) changes)
            | inr kept ↦ holds_kept kept
          ]

      pub memory_ended : flat_pages held pages' ≡ flat_pages held pages
      memory_ended =
          elim (rekept job (dirty_of (entry_at tables number)) page.place page'.place answer told) [
            | inl stays ↦ memory_stays held pages pages' number page page' found (ap (flat_page held) (ended_same stays)) changes
            | inr kept ↦ memory_ended_kept kept
          ]

  -- ---- which page may be cleaned

  -- none below where no page is mapped from there on
  pub none_between : (pages : List (ℕ × PageValue S)) (tables : List (List ℕ)) (first from end : ℕ) → ((q : ℕ) → first ≤ q → q < from → is_changed_resident pages tables q ≡ false) → ((q : ℕ) → from ≤ q → q < end → place_of q pages ≡ None)
      → (q : ℕ) → first ≤ q → q < end → is_changed_resident pages tables q ≡ false
  none_between pages tables first from end before absent q high low =
      elim (leb_tells from q) [
        | inl behind ↦ ap (page_passes (λ page. is_resident_place page.place && changed (dirty_of (entry_at tables q)) page.place)) (page_at-nowhere pages q (absent q behind.1 low))
        | inr passed ↦ before q high passed.1
      ]

  -- one page more is none
  pub none_behind : (pages : List (ℕ × PageValue S)) (tables : List (List ℕ)) (first from number : ℕ) → ((q : ℕ) → first ≤ q → q < from → is_changed_resident pages tables q ≡ false) → ((q : ℕ) → from ≤ q → q < number → place_of q pages ≡ None)
      → is_changed_resident pages tables number ≡ false → (q : ℕ) → first ≤ q → q < number + 1 → is_changed_resident pages tables q ≡ false
  none_behind pages tables first from number before absent none q high low =
      elim (leb_tells number q) [
        | inl behind ↦ let same : number ≡ q = let past = behind.1 in omega (arith, past, low) in subst (λ n. is_changed_resident pages tables n ≡ false) same none
        | inr passed ↦ none_between pages tables first from number before absent q high passed.1
      ]
