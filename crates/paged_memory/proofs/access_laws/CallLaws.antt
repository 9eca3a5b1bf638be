-- What each call on a process's pages keeps.
use Rattle.std.specs.Prelude.{◌≡◌, ℕ, ◌^◌, ◌<◌, Bool, true, false, ◌||◌, Option, Some, None, option_map, List, [], map, refl}
use Rattle.std.proofs.Common.{sym, ap, ◌∙◌, subst}
use Rattle.std.proofs.lemmas.List.Elements.{All-nil}
use Rattle.frame_pool.specs.FrameValue.{FrameValue}
use Rattle.page_memory.specs.declared.rights.Rights.{Rights}
use Rattle.page_memory.specs.declared.words.Access.TheVariants.{Load, Store}
use Rattle.page_memory.specs.Rights.{may}
use Rattle.page_store.specs.Keeping.{Keeping, is_loose}
use Rattle.page_store.specs.PageValue.{PageValue, Place, Fresh, Resident, Leaving, Saving, Away, Purged, Backed}
use Rattle.sv32_table.specs.Entry.{Entry, page_entry, blank}
use Rattle.sv32_table.specs.EntryAt.{entry_at, ChangesEntry, SameTables, unaccessed_entry, accessed_of}
use Rattle.sv32_table.proofs.EntryLaws.{unaccessed_entry-page_entry, accessed_of-page_entry, accessed-page_entry, dirty-page_entry}
use Rattle.tlb_core.specs.declared.translation.Translation.{Translation}
use Rattle.tlb_core.specs.Cache.{doomed}
use Rattle.page_memory.specs.Pages.{Page}
use Rattle.paged_memory.specs.Seen as seen
use Rattle.paged_memory.specs.Seen.{Seen, entry_seen, entry_standing, rights_seen, takes_stores, is_used}
use Rattle.paged_memory.specs.Soundness.{IsMapped}
use Rattle.paged_memory.specs.Calls.{accessed_at, accessed_standing, IsResident}
use Rattle.paged_memory.specs.Paged.{standing_of, seen_of, page_at, seen_at, Holds, IsConstant}
use Rattle.paged_memory.proofs.move_laws.PagedLaws.{Change, choice_here, changes_no_page, Holds-doomed}

-- the entry of the page that changed
pub entry_at_changed : (tables tables' : List (List ℕ)) (e : Entry) (number : ℕ) → number < 2 ^ 20 → ChangesEntry tables tables' number e → entry_at tables' number ≡ e
entry_at_changed tables tables' e number small entries = entries number small ∙ choice_here number e (entry_at tables number)

-- what a page's entry tells of its A is what is seen of it
entry_tells : (s : Option Seen) (e : Entry) → e ≡ entry_seen s e.accessed e.dirty → accessed_of e ≡ accessed_at s e
unfolding accessed_of
entry_tells (Some page) e is = by_standing page.rights page.standing is
  where
    by_standing : (rights : Rights) (standing : seen.Standing) → e ≡ entry_standing rights standing e.accessed e.dirty → accessed_of e ≡ accessed_standing standing e
    by_standing rights (seen.Resident frame loose) is = ap accessed_of is ∙ accessed_of-page_entry frame rights e.accessed e.dirty
    by_standing rights (seen.Leaving frame mark loose) is = ap accessed_of is
    by_standing rights seen.Elsewhere is = ap accessed_of is
entry_tells None e is = ap accessed_of is

module _ {S : Type 0} where
  -- no page, no entry and no hart
  pub holds_new : (held : S → List ℕ) (honest : Type 0) (tables : List (List ℕ)) → ((q : ℕ) → q < 2 ^ 20 → entry_at tables q ≡ blank) → Holds held honest [] tables []
  unfolding page_at
  holds_new held honest tables blank_all =
      record {
        agree = record {
          mapped = λ q small. record { entry = blank_all q small; readable = λ rights none. cc };
          cached = All-nil _;
        };
        tabled = λ q p small none. cc;
        placed = All-nil _;
        backed = λ is_honest q p small none. cc;
        constant = λ q p small none. cc;
      }

  -- a page of whose A something is seen is resident
  resident_seen : (pages : List (ℕ × PageValue S)) (number : ℕ) (e : Entry) (bit : Bool) → accessed_at (seen_at pages number) e ≡ Some bit → IsResident pages number
  resident_seen pages number e bit is = by_page (page_at pages number) refl is
    where
      by_place : (origin : Page) (place : Place S) → page_at pages number ≡ Some (record { origin = origin; place = place }) → accessed_standing (standing_of place) e ≡ Some bit → IsResident pages number
      by_place origin Fresh found is = cc
      by_place origin (Resident frame slot) found is = record { origin = origin; frame = frame; slot = slot; found = found }
      by_place origin (Leaving frame slot mark) found is = cc
      by_place origin (Saving frame mark) found is = cc
      by_place origin (Away slot) found is = cc
      by_place origin Purged found is = cc

      by_page : (o : Option (PageValue S)) → page_at pages number ≡ o → accessed_at (option_map seen_of o) e ≡ Some bit → IsResident pages number
      by_page None found is = cc
      by_page (Some page) found is = by_place page.origin page.place found is

  module _ {held : S → List ℕ} {honest : Type 0} {pages : List (ℕ × PageValue S)} {tables : List (List ℕ)} {caches : List (List Translation)} (number : ℕ) (small : number < 2 ^ 20) (holds : Holds held honest pages tables caches) where
    -- what its entry tells of its A is what is seen of it
    pub accessed_by_entry : accessed_of (entry_at tables number) ≡ accessed_at (seen_at pages number) (entry_at tables number)
    accessed_by_entry = entry_tells (seen_at pages number) (entry_at tables number) (holds.agree.mapped number small).entry

    -- and where the entry tells of one, the page is resident
    pub resident_by_entry : (bit : Bool) → accessed_of (entry_at tables number) ≡ Some bit → IsResident pages number
    resident_by_entry bit is = resident_seen pages number (entry_at tables number) bit (sym accessed_by_entry ∙ is)

  -- a resident page with the entry of its frame and rights, whatever its A and D
  pub mapped_resident : (origin : Page) (frame : FrameValue) (slot : Keeping S) (accessed dirty : Bool) {e : Entry} → e ≡ page_entry frame.number origin.rights accessed dirty → (may Store origin.rights ≡ true → may Load origin.rights ≡ true) → IsMapped (Some (seen_of {S = S} (record { origin = origin; place = Resident frame slot }))) e
  mapped_resident origin frame slot accessed dirty {e} is readable =
      record {
        entry =
            is
            ∙ sym (ap (λ a. page_entry frame.number origin.rights a dirty) (ap (λ (u : Entry). u.accessed) is ∙ accessed-page_entry frame.number origin.rights accessed dirty))
            ∙ sym (ap (λ d. page_entry frame.number origin.rights e.accessed d) (ap (λ (u : Entry). u.dirty) is ∙ dirty-page_entry frame.number origin.rights accessed dirty));
        readable = λ rights same may_store. let equal : origin.rights ≡ rights = cc in subst (λ r. may Load r ≡ true) equal (readable (subst (λ r. may Store r ≡ true) (sym equal) may_store));
      }

  module _ {held : S → List ℕ} {honest : Type 0} {pages : List (ℕ × PageValue S)} {tables : List (List ℕ)} {caches : List (List Translation)} (number : ℕ) (small : number < 2 ^ 20) (holds : Holds held honest pages tables caches) (resident : IsResident pages number) where
    -- what is seen of it
    pub seen_resident : seen_at pages number ≡ Some (record { rights = resident.origin.rights; standing = seen.Resident resident.frame.number (is_loose resident.slot) })
    seen_resident = ap (option_map seen_of) resident.found

    -- it has the entry of its frame and its rights
    pub entry_resident : entry_at tables number ≡ page_entry resident.frame.number resident.origin.rights (entry_at tables number).accessed (entry_at tables number).dirty
    entry_resident =
        (holds.agree.mapped number small).entry ∙ ap (λ s. entry_seen s (entry_at tables number).accessed (entry_at tables number).dirty) seen_resident

    -- and may be read if it may be written
    pub readable_resident : may Store resident.origin.rights ≡ true → may Load resident.origin.rights ≡ true
    readable_resident = (holds.agree.mapped number small).readable resident.origin.rights (ap rights_seen seen_resident)

    -- its A is cleared, and its translations are doomed
    pub accessed_cleared : {tables' : List (List ℕ)} → ChangesEntry tables tables' number (unaccessed_entry (entry_at tables number)) → SameTables tables tables' → Holds held honest pages tables' (map (doomed number) caches)
    accessed_cleared {tables'} entries same =
        Holds-doomed change caches holds (record { frame = refl; rights = refl; changed = λ was. still was })
      where
        e : Entry
        e = entry_at tables number

        cleared : unaccessed_entry e ≡ page_entry resident.frame.number resident.origin.rights false e.dirty
        cleared = ap unaccessed_entry entry_resident ∙ unaccessed_entry-page_entry resident.frame.number resident.origin.rights e.accessed e.dirty

        dirty_same : (unaccessed_entry e).dirty ≡ e.dirty
        dirty_same = ap (λ (u : Entry). u.dirty) cleared ∙ dirty-page_entry resident.frame.number resident.origin.rights false e.dirty

        page : PageValue S
        page = record { origin = resident.origin; place = Resident resident.frame resident.slot }

        change : Change held honest pages pages tables tables' number page (unaccessed_entry e)
        change =
            record {
              small = small;
              changes = changes_no_page pages number page resident.found;
              entry = entries;
              kept = λ q in_range has. same q in_range ∙ has;
              tabled = λ framed. same number small ∙ holds.tabled number page small resident.found framed;
              mapped = mapped_resident resident.origin resident.frame resident.slot false e.dirty cleared readable_resident;
              backed = λ is_honest. subst (λ d. Backed held d page) (sym dirty_same) (holds.backed is_honest number page small resident.found);
              constant = subst (λ d. IsConstant d page) (sym dirty_same) (holds.constant number page small resident.found);
            }

        still : takes_stores (seen_at pages number) e ≡ true → takes_stores (seen_at pages number) (entry_at tables' number) ≡ true
        still was =
            let there : entry_at tables' number ≡ unaccessed_entry e = entry_at_changed tables tables' (unaccessed_entry e) number small entries in
            ap (λ s. takes_stores s (entry_at tables' number)) seen_resident ∙ ap (λ (u : Entry). u.dirty || is_loose resident.slot) there ∙ ap (λ d. d || is_loose resident.slot) dirty_same
            ∙ sym (ap (λ s. takes_stores s e) seen_resident) ∙ was
