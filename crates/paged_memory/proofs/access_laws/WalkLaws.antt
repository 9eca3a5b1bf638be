-- A hart walks the tables for a resident page, and caches the translation.
use Rattle.std.specs.Prelude.{◌≡◌, ◌≢◌, ℕ, ◌^◌, ◌<◌, ◌==◌, Bool, true, false, ◌||◌, cond, Option, Some, None, option_and_then, is_some, List, [], All, length, slice_set, slice_index_or, refl}
use Rattle.std.proofs.Common.{sym, ap, ◌∙◌, subst, inl, inr, eqb-true, eq-eqb, true≢false}
use Rattle.std.proofs.lemmas.List.{get_or-set_same, get_or-set_other, length-set}
use Rattle.std.proofs.lemmas.List.Elements.{All-get_or, All-set}
use Rattle.frame_pool.specs.FrameValue.{FrameValue}
use Rattle.page_memory.specs.Pages.{Page}
use Rattle.page_memory.specs.declared.words.Access.{Access}
use Rattle.page_memory.specs.declared.words.Access.TheVariants.{Fetch, Load, Store}
use Rattle.page_memory.specs.declared.rights.Rights.{Rights}
use Rattle.page_memory.specs.Rights.{may}
use Rattle.page_memory.specs.Entries.{place_of, value_at}
use Rattle.page_store.specs.Keeping.{Keeping, is_loose}
use Rattle.page_store.specs.PageValue.{PageValue, Resident, Backed}
use Rattle.sv32_table.specs.Entry.{Entry, page_entry}
use Rattle.sv32_table.specs.EntryAt.{entry_at, ChangesEntry, SameTables, walked_entry, dirty_of}
use Rattle.sv32_table.proofs.EntryLaws.{is_store, walked_entry-page_entry, dirty_of-page_entry, dirty-page_entry, accessed-page_entry}
use Rattle.tlb_core.specs.declared.translation.Translation.{Translation}
use Rattle.tlb_core.specs.Cache.{Hits, OnePerPage, filled, translation_of}
use Rattle.tlb_core.proofs.CacheLaws.{All-filled, All-none, hits_filled, none-All}
use Rattle.paged_memory.specs.Seen.{Seen, frame_seen, rights_seen, is_dirty, takes_stores, is_used}
use Rattle.paged_memory.specs.Soundness.{IsSound}
use Rattle.paged_memory.specs.Calls.{IsResident}
use Rattle.paged_memory.specs.access.Access.{cache_of, is_resident, HasPage, Reaches, Locates, KeepsTranslations}
use Rattle.paged_memory.specs.access.OwnCache.{MayFill}
use Rattle.paged_memory.proofs.access_laws.OwnCacheLaws.{goes_filled}
use Rattle.paged_memory.specs.Paged.{page_at, seen_at, Holds, IsConstant}
use Rattle.paged_memory.proofs.move_laws.PagedLaws.{Change, choice_other, changes_no_page, Holds-held}
use Rattle.paged_memory.proofs.access_laws.CallLaws.{entry_at_changed, entry_resident, seen_resident, readable_resident, mapped_resident}

-- a page that counts as changed by more than before
backed_raised : {S : Type 0} (held : S → List ℕ) (origin : Page) (frame : FrameValue) (slot : Keeping S) (more dirty : Bool) → Backed held dirty (record { origin = origin; place = Resident frame slot }) → Backed held (more || dirty) (record { origin = origin; place = Resident frame slot })
backed_raised held origin frame slot true dirty was = λ unchanged. cc
backed_raised held origin frame slot false dirty was = was

-- a walk for a store is only of a page that may be written
constant_walked : {S : Type 0} (access : Access) (dirty : Bool) (page : PageValue S) → may access page.origin.rights ≡ true → IsConstant dirty page → IsConstant (is_store access || dirty) page
constant_walked Store dirty page allowed was = λ fixed. absurd (true≢false (sym allowed ∙ fixed))
constant_walked Load dirty page allowed was = was
constant_walked Fetch dirty page allowed was = was

other_test : (q number : ℕ) → q ≢ number → (q == number) ≡ false
other_test q number other = by_test (q == number) refl
  where
    by_test : (b : Bool) → (q == number) ≡ b → b ≡ false
    by_test true is = absurd (other (eqb-true q number is))
    by_test false is = refl

or_more : (more dirty : Bool) → dirty ≡ true → (more || dirty) ≡ true
or_more true dirty is = refl
or_more false dirty is = is

or_more_or : (more dirty loose : Bool) → (dirty || loose) ≡ true → ((more || dirty) || loose) ≡ true
or_more_or true dirty loose is = refl
or_more_or false dirty loose is = is

module _ {S : Type 0} {held : S → List ℕ} {honest : Type 0} {pages : List (ℕ × PageValue S)} where
  -- a translation is put into a hart's cache
  pub holds_filled : {tables : List (List ℕ)} {caches : List (List Translation)} (t : Translation) (hart : ℕ) → hart < length caches → Holds held honest pages tables caches → IsSound (seen_at pages t.page) (entry_at tables t.page) t → place_of t.page pages ≡ Some t.place → Holds held honest pages tables (slice_set caches hart (filled t (slice_index_or caches hart [])))
  holds_filled {tables} {caches} t hart within holds sound placed =
      record {
        agree = record { mapped = holds.agree.mapped; cached = put (λ u. IsSound (seen_at pages u.page) (entry_at tables u.page) u) sound holds.agree.cached };
        tabled = holds.tabled;
        placed = put (λ u. place_of u.page pages ≡ Some u.place) placed holds.placed;
        backed = holds.backed;
        constant = holds.constant;
      }
    where
      put : (P : Translation → Type 0) → P t → All (λ cache. All P cache) caches → All (λ cache. All P cache) (slice_set caches hart (filled t (slice_index_or caches hart [])))
      put P here all = All-set (λ cache. All P cache) caches hart _ (All-filled P t _ here (All-get_or (λ cache. All P cache) caches hart [] within all)) all

  module _ {tables : List (List ℕ)} {caches : List (List Translation)} (tables' : List (List ℕ)) (number : ℕ) (small : number < 2 ^ 20) (holds : Holds held honest pages tables caches) (resident : IsResident pages number) (access : Access) (allowed : may access resident.origin.rights ≡ true) (entries : ChangesEntry tables tables' number (walked_entry (entry_at tables number) access)) (same : SameTables tables tables') where
    abbrev old_entry : Entry
    old_entry = entry_at tables number

    abbrev page : PageValue S
    page = record { origin = resident.origin; place = Resident resident.frame resident.slot }

    abbrev now_dirty : Bool
    now_dirty = is_store access || old_entry.dirty

    walked : walked_entry old_entry access ≡ page_entry resident.frame.number resident.origin.rights true now_dirty
    walked =
        ap (λ e. walked_entry e access) (entry_resident number small holds resident)
        ∙ walked_entry-page_entry access resident.frame.number resident.origin.rights old_entry.accessed old_entry.dirty (readable_resident number small holds resident)
        ∙ ap (λ b. cond b (page_entry resident.frame.number resident.origin.rights true now_dirty) (page_entry resident.frame.number resident.origin.rights old_entry.accessed old_entry.dirty)) allowed

    pub entry_now : entry_at tables' number ≡ page_entry resident.frame.number resident.origin.rights true now_dirty
    entry_now = entry_at_changed tables tables' (walked_entry old_entry access) number small entries ∙ walked

    pub accessed_now : (entry_at tables' number).accessed ≡ true
    accessed_now = ap (λ (e : Entry). e.accessed) entry_now ∙ accessed-page_entry resident.frame.number resident.origin.rights true now_dirty

    pub dirty_now : (entry_at tables' number).dirty ≡ now_dirty
    dirty_now = ap (λ (e : Entry). e.dirty) entry_now ∙ dirty-page_entry resident.frame.number resident.origin.rights true now_dirty

    walked_dirty : (walked_entry old_entry access).dirty ≡ now_dirty
    walked_dirty = ap (λ (e : Entry). e.dirty) walked ∙ dirty-page_entry resident.frame.number resident.origin.rights true now_dirty

    change : Change held honest pages pages tables tables' number page (walked_entry old_entry access)
    change =
        record {
          small = small;
          changes = changes_no_page pages number page resident.found;
          entry = entries;
          kept = λ q in_range has. same q in_range ∙ has;
          tabled = λ framed. same number small ∙ holds.tabled number page small resident.found framed;
          mapped = mapped_resident resident.origin resident.frame resident.slot true now_dirty walked (readable_resident number small holds resident);
          backed = λ is_honest. subst (λ d. Backed held d page) (sym walked_dirty) (backed_raised held resident.origin resident.frame resident.slot (is_store access) old_entry.dirty (holds.backed is_honest number page small resident.found));
          constant = subst (λ d. IsConstant d page) (sym walked_dirty) (constant_walked access old_entry.dirty page allowed (holds.constant number page small resident.found));
        }

    pub changed_on : is_dirty (seen_at pages number) old_entry ≡ true → is_dirty (seen_at pages number) (entry_at tables' number) ≡ true
    changed_on was =
        ap (λ s. is_dirty s (entry_at tables' number)) (seen_resident number small holds resident) ∙ dirty_now
        ∙ or_more (is_store access) old_entry.dirty (sym (ap (λ s. is_dirty s old_entry) (seen_resident number small holds resident)) ∙ was)

    pub takes_on : takes_stores (seen_at pages number) old_entry ≡ true → takes_stores (seen_at pages number) (entry_at tables' number) ≡ true
    takes_on was =
        ap (λ s. takes_stores s (entry_at tables' number)) (seen_resident number small holds resident) ∙ ap (λ d. d || is_loose resident.slot) dirty_now
        ∙ or_more_or (is_store access) old_entry.dirty (is_loose resident.slot) (sym (ap (λ s. takes_stores s old_entry) (seen_resident number small holds resident)) ∙ was)

    -- its use is marked
    pub used_now : is_used (seen_at pages number) (entry_at tables' number) ≡ true
    used_now = ap (λ s. is_used s (entry_at tables' number)) (seen_resident number small holds resident) ∙ accessed_now

    pub holds_walked : Holds held honest pages tables' caches
    holds_walked = Holds-held change caches holds (record { frame = refl; rights = refl; changed = takes_on }) (λ _. used_now)

    -- the translation that the walk gives
    abbrev pub translation : ℕ → Translation
    translation place = record { page = number; place = place; frame = resident.frame.number; rights = resident.origin.rights; dirty = dirty_of (entry_at tables' number); doomed = false }

    told_dirty : dirty_of (entry_at tables' number) ≡ now_dirty
    told_dirty = ap dirty_of entry_now ∙ dirty_of-page_entry resident.frame.number resident.origin.rights true now_dirty

    pub sound_now : (place : ℕ) → IsSound (seen_at pages number) (entry_at tables' number) (translation place)
    sound_now place =
        record {
          small = small;
          frame = ap frame_seen (seen_resident number small holds resident);
          rights = ap rights_seen (seen_resident number small holds resident);
          changed = λ dirty. ap (λ s. takes_stores s (entry_at tables' number)) (seen_resident number small holds resident) ∙ ap (λ d. d || is_loose resident.slot) (dirty_now ∙ sym told_dirty ∙ dirty);
          used = λ _. used_now;
        }

    -- everything goes together with it in the hart's cache
    pub holds_cached : (place hart : ℕ) → hart < length caches → place_of number pages ≡ Some place → Holds held honest pages tables' (slice_set caches hart (filled (translation place) (slice_index_or caches hart [])))
    holds_cached place hart within at = holds_filled (translation place) hart within holds_walked (sound_now place) at

    module _ (place hart : ℕ) (within : hart < length caches) where
      abbrev cached : List (List Translation)
      cached = slice_set caches hart (filled (translation place) (slice_index_or caches hart []))

      cache_now : cache_of cached hart ≡ filled (translation place) (cache_of caches hart)
      cache_now = get_or-set_same caches hart (filled (translation place) (slice_index_or caches hart [])) [] within

      -- what is marked stays marked, and more
      rises : (asked : Option Seen → Entry → Bool) → (asked (seen_at pages number) old_entry ≡ true → asked (seen_at pages number) (entry_at tables' number) ≡ true) → (q : ℕ) → q < 2 ^ 20 → asked (seen_at pages q) (entry_at tables q) ≡ true → asked (seen_at pages q) (entry_at tables' q) ≡ true
      rises asked here q in_range was =
          elim (q == number) as (λ b. (q == number) ≡ b → asked (seen_at pages q) (entry_at tables' q) ≡ true) [
            | true ↦ λ at.
                let equal : q ≡ number = eqb-true q number at in
                subst (λ q. asked (seen_at pages q) (entry_at tables' q) ≡ true) (sym equal) (here (subst (λ q. asked (seen_at pages q) (entry_at tables q) ≡ true) equal was))
            | false ↦ λ other. ap (asked (seen_at pages q)) (entries q in_range ∙ choice_other q number (walked_entry old_entry access) (entry_at tables q) other) ∙ was
          ] refl

      -- a page that the hart's cache holds was held, or is resident
      held_before : (q : ℕ) → is_some (translation_of q (cache_of cached hart)) ≡ true → HasPage pages (cache_of caches hart) q
      held_before q holds_now = by_page (q == number) refl (translation_of q (cache_of caches hart)) refl (ap (λ c. is_some (translation_of q c)) (sym cache_now) ∙ holds_now)
        where
          by_page : (b : Bool) → (q == number) ≡ b → (o : Option Translation) → translation_of q (cache_of caches hart) ≡ o → is_some (translation_of q (filled (translation place) (cache_of caches hart))) ≡ true → HasPage pages (cache_of caches hart) q
          by_page true at o was now = inl (ap (λ n. is_resident (seen_at pages n)) (eqb-true q number at) ∙ ap is_resident (seen_resident number small holds resident))
          by_page false other (Some t) was now = inr (ap is_some was)
          by_page false other None was now =
              let apart : number ≢ q = λ e. true≢false (sym (eq-eqb q number (sym e)) ∙ other) in
              let gone = none-All q _ (All-filled (λ t. t.page ≢ q) (translation place) (cache_of caches hart) apart (All-none q (cache_of caches hart) was)) in
              absurd (true≢false (sym now ∙ ap is_some gone))

      -- the walk fills the page's translation, and changes no other page's entry
      fills_walked : OnePerPage (cache_of caches hart) → ((p : ℕ) → ¬ Hits (cache_of caches hart) access number p) → MayFill number tables tables' (cache_of caches hart) (cache_of cached hart)
      fills_walked apart missed = inr (record {
        entry = translation place;
        page_is = refl;
        live = refl;
        dirty = refl;
        rest = λ q in_range other. entries q in_range ∙ choice_other q number (walked_entry (entry_at tables number) access) (entry_at tables q) (other_test q number other);
        apart = apart;
        missed = (access, (allowed, missed));
        is = cache_now;
      })

      pub keeps_walked : OnePerPage (cache_of caches hart) → ((p : ℕ) → ¬ Hits (cache_of caches hart) access number p) → KeepsTranslations pages hart number tables tables' caches cached
      keeps_walked apart missed =
          record {
            harts = length-set caches hart (filled (translation place) (slice_index_or caches hart []));
            others = λ h apart. get_or-set_other caches hart h (filled (translation place) (slice_index_or caches hart [])) [] apart;
            used = rises is_used (λ _. used_now);
            changed = rises is_dirty changed_on;
            held = held_before;
            doomed = (goes_filled number tables tables' (cache_of caches hart) (cache_of cached hart) (fills_walked apart missed)).doomed;
            tabled = same;
            fills = fills_walked apart missed;
          }

-- what a walk comes to
pub record Walked {S : Type 0} (held : S → List ℕ) (honest : Type 0) (pages : List (ℕ × PageValue S)) (tables tables' : List (List ℕ)) (caches caches' : List (List Translation)) (hart : ℕ) (access : Access) (number place : ℕ) : Type 0 where
  pub holds : Holds held honest pages tables' caches'
  pub reaches : Reaches pages tables' access number place
  pub hits : Hits (cache_of caches' hart) access number place
  pub kept : KeepsTranslations pages hart number tables tables' caches caches'
  pub used : is_used (seen_at pages number) (entry_at tables' number) ≡ true
  pub dirtied : access ≡ Store → is_dirty (seen_at pages number) (entry_at tables' number) ≡ true

store_told : (access : Access) → access ≡ Store → is_store access ≡ true
store_told Store is = refl
store_told Load is = cc
store_told Fetch is = cc

true_more : (more dirty : Bool) → more ≡ true → (more || dirty) ≡ true
true_more true dirty is = refl
true_more false dirty is = cc

pub walk_done : {S : Type 0} {held : S → List ℕ} {honest : Type 0} {pages : List (ℕ × PageValue S)} {tables : List (List ℕ)} {caches : List (List Translation)} (tables' : List (List ℕ)) (caches' : List (List Translation)) (number hart place frame : ℕ) (rights : Rights) (dirty : Bool) (access : Access) → number < 2 ^ 20 → hart < length caches → Holds held honest pages tables caches → Locates pages access number place frame rights
    → ChangesEntry tables tables' number (walked_entry (entry_at tables number) access) → SameTables tables tables' → dirty ≡ dirty_of (entry_at tables' number) → OnePerPage (cache_of caches hart)
    → ((p : ℕ) → ¬ Hits (cache_of caches hart) access number p)
    → caches' ≡ slice_set caches hart (filled (record { page = number; place = place; frame = frame; rights = rights; dirty = dirty; doomed = false }) (slice_index_or caches hart []))
    → Walked held honest pages tables tables' caches caches' hart access number place
unfolding page_at
walk_done {S} {held} {honest} {pages} {tables} {caches} tables' caches' number hart place frame rights dirty access small within holds at entries same told apart missed filled_is =
    record {
      holds = subst (λ cs. Holds held honest pages tables' cs) (sym caches_are) (holds_cached tables' number small holds at.resident access at.allowed entries same place hart within at.at);
      reaches = record {
        page = record { origin = at.resident.origin; place = Resident at.resident.frame at.resident.slot };
        at = at.at;
        value = sym (ap (option_and_then (λ k. value_at k pages)) at.at) ∙ at.resident.found;
        allowed = at.allowed;
        framed = refl;
        changed = λ is. ap (λ d. d || is_loose at.resident.slot) (dirty_now tables' number small holds at.resident access at.allowed entries same ∙ true_more (is_store access) (entry_at tables number).dirty (store_told access is));
      };
      hits = subst (λ cs. Hits (cache_of cs hart) access number place) (sym caches_are)
          (subst (λ c. Hits c access number place) (sym (cache_now tables' number small holds at.resident access at.allowed entries same place hart within))
          (hits_filled access (translation tables' number small holds at.resident access at.allowed entries same place) (cache_of caches hart) at.allowed
          (λ is. told_dirty tables' number small holds at.resident access at.allowed entries same ∙ true_more (is_store access) (entry_at tables number).dirty (store_told access is))));
      kept = subst (λ cs. KeepsTranslations pages hart number tables tables' caches cs) (sym caches_are) (keeps_walked tables' number small holds at.resident access at.allowed entries same place hart within apart missed);
      used = used_now tables' number small holds at.resident access at.allowed entries same;
      dirtied = λ is.
          ap (λ s. is_dirty s (entry_at tables' number)) (seen_resident number small holds at.resident)
          ∙ dirty_now tables' number small holds at.resident access at.allowed entries same
          ∙ true_more (is_store access) (entry_at tables number).dirty (store_told access is);
    }
  where
    caches_are : caches' ≡ slice_set caches hart (filled (translation tables' number small holds at.resident access at.allowed entries same place) (slice_index_or caches hart []))
    caches_are =
        filled_is
        ∙ ap (λ f. slice_set caches hart (filled (record { page = number; place = place; frame = f; rights = rights; dirty = dirty; doomed = false }) (slice_index_or caches hart []))) (sym at.frame_is)
        ∙ ap (λ r. slice_set caches hart (filled (record { page = number; place = place; frame = at.resident.frame.number; rights = r; dirty = dirty; doomed = false }) (slice_index_or caches hart []))) (sym at.rights_is)
        ∙ ap (λ d. slice_set caches hart (filled (record { page = number; place = place; frame = at.resident.frame.number; rights = at.resident.origin.rights; dirty = d; doomed = false }) (slice_index_or caches hart []))) told
