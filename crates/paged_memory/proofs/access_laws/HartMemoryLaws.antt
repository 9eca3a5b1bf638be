-- What a hart's accesses keep, over several of them.
use Rattle.std.specs.Prelude.{◌≡◌, ℕ, ◌<◌, ◌⊎◌, true, false, is_some, option_map, Option, Some, None, List, [], length, slice_index_or, refl}
use Rattle.std.proofs.Common.{sym, ap, ◌∙◌, subst, arith, inl, inr, true≢false}
use Rattle.std.proofs.Math.Logic.{∥∥₁_map}
use Rattle.std.proofs.lemmas.Bool.Decides.{eqb_tells}
use Rattle.std.proofs.lemmas.Option.{none-some, same_Some}
use Rattle.page_store.specs.PageValue.{PageValue, Place, Fresh, Resident, Leaving, Saving, Away, Purged, fresh_zero_page}
use Rattle.page_store.specs.Lending.{with_bytes, rewritten}
use Rattle.sv32_table.specs.EntryAt.{entry_at, has_table}
use Rattle.tlb_core.specs.declared.translation.Translation.{Translation}
use Rattle.tlb_core.specs.Cache.{translation_of}
use Rattle.paged_memory.specs.Seen.{Seen, is_used, is_dirty, takes_stores}
use Rattle.paged_memory.specs.Paged.{PagedValue, standing_of, seen_of, page_at, seen_at}
use Rattle.paged_memory.specs.access.Access.{HasPage, LacksPage, KeepsBare, KeepsTranslations, TakesStores, cache_of, is_resident}
use Rattle.paged_memory.proofs.cleaning_laws.CopiesLaws.{copies_itself, copies_on, copies_kept}
use Rattle.paged_memory.specs.access.OwnCache.{FilledFrom, GoesOn, KeepsDoomed}
use Rattle.paged_memory.proofs.access_laws.OwnCacheLaws.{filled_itself, filled_on, goes_itself, goes_on, goes_filled, of_first}
use Rattle.paged_memory.specs.access.HartMemory.{InTurn, KeepsPages, KeepsAccess, MarksSince, ServedBefore, UsedSince, WasShown}

-- what went through a translation that is to be dropped went through the one that was there before
pub served_before : (page : ℕ) (cache opening : List Translation) → KeepsDoomed opening cache → ServedBefore cache page → ServedBefore opening page
served_before page cache opening kept before = record {
  access = before.access;
  served = record {
    place = before.served.place;
    hits = record {
      entry = before.served.hits.entry;
      found = kept page before.served.hits.entry before.served.hits.found before.served.doomed;
      at = before.served.hits.at;
      allowed = before.served.hits.allowed;
      dirty = before.served.hits.dirty;
    };
    doomed = before.served.doomed;
  };
}

-- a cache that showed a page goes on to
pub shown_on : (opening between cache : List Translation) (page : ℕ) → FilledFrom (λ _. true) between cache → WasShown opening between page → WasShown opening cache page
unfolding filled_on
shown_on opening between cache page filled was = ∥∥₁_map was (λ one. record {
  filled = filled_on (λ _. true) opening between cache one.filled filled;
  shown = elim one.shown [ inl there ↦ inl there | inr new ↦ inr (of_first one.filled.more filled.more page new) ];
})

module _ {S : Type 0} where
  -- what translation sees of a page does not rest on its frame's bytes
  standing_bare : (place : Place S) → standing_of (rewritten [] place) ≡ standing_of place
  standing_bare Fresh = refl
  standing_bare (Resident frame slot) = refl
  standing_bare (Leaving frame slot mark) = refl
  standing_bare (Saving frame mark) = refl
  standing_bare (Away slot) = refl
  standing_bare Purged = refl

  pub seen_bare : (o : Option (PageValue S)) → option_map seen_of (option_map (λ page. with_bytes page []) o) ≡ option_map seen_of o
  seen_bare None = refl
  seen_bare (Some page) = ap (λ s. Some (record { rights = page.origin.rights; standing = s })) (standing_bare page.place)

  -- a page of zeros without its frame's bytes is one
  zero_place : (place : Place S) → rewritten [] place ≡ Fresh → place ≡ Fresh
  zero_place Fresh is = refl
  zero_place (Resident frame slot) is = cc
  zero_place (Leaving frame slot mark) is = cc
  zero_place (Saving frame mark) is = cc
  zero_place (Away slot) is = cc
  zero_place Purged is = cc

  zero_bare : (page : PageValue S) → with_bytes page [] ≡ fresh_zero_page → page ≡ fresh_zero_page
  zero_bare page is =
      let place : page.place ≡ Fresh = zero_place page.place (ap (λ (p : PageValue S). p.place) is) in
      (λ i. record { origin = page.origin; place = place i }) ∙ ap (λ (p : PageValue S). record { origin = p.origin; place = Fresh }) is

  -- what is seen of a page that was there stays
  pub seen_kept : (old new : List (ℕ × PageValue S)) → KeepsPages old new → (page : ℕ) → is_some (page_at old page) ≡ true → seen_at new page ≡ seen_at old page
  seen_kept old new kept page there = sym (seen_bare (page_at new page)) ∙ ap (option_map seen_of) (kept.bare page there) ∙ seen_bare (page_at old page)

  -- of one that was not, nothing is seen but that it is nowhere
  pub seen_fresh : (old new : List (ℕ × PageValue S)) → KeepsPages old new → (page : ℕ) → page_at old page ≡ None → (seen_at new page ≡ None) ⊎ (seen_at new page ≡ Some (seen_of {S = S} fresh_zero_page))
  seen_fresh old new kept page none = by_page (page_at new page) refl
    where
      by_page : (o : Option (PageValue S)) → page_at new page ≡ o → (option_map seen_of o ≡ None) ⊎ (option_map seen_of o ≡ Some (seen_of {S = S} fresh_zero_page))
      by_page None is = inl refl
      by_page (Some value) is = inr (ap (λ v. Some (seen_of v)) (kept.fresh page value none is))

  -- what holds of nowhere and of what was there holds after as before
  pub by_seen : (P : Option Seen → Option Seen → Type 0) (old new : List (ℕ × PageValue S)) → KeepsPages old new → (page : ℕ)
      → ((s : Option Seen) → P s s) → P None (Some (seen_of {S = S} fresh_zero_page)) → P (seen_at old page) (seen_at new page)
  by_seen P old new kept page same grown = by_page (page_at old page) refl
    where
      by_page : (o : Option (PageValue S)) → page_at old page ≡ o → P (option_map seen_of o) (seen_at new page)
      by_page (Some value) is = subst (λ s. P (Some (seen_of value)) s) (sym (seen_kept old new kept page (ap is_some is) ∙ ap (option_map seen_of) is)) (same (Some (seen_of value)))
      by_page None is =
          elim (seen_fresh old new kept page is) [
            | inl none ↦ subst (λ s. P None s) (sym none) (same None)
            | inr some ↦ subst (λ s. P None s) (sym some) grown
          ]

  pub pages_itself : (pages : List (ℕ × PageValue S)) → KeepsPages pages pages
  pages_itself pages = record {
    places = λ page place at. at;
    bare = λ page there. refl;
    fresh = λ page value none is. absurd (none-some _ (sym none ∙ is));
  }

  some_bare : (o o' : Option (PageValue S)) → option_map (λ page. with_bytes page []) o' ≡ option_map (λ page. with_bytes page []) o → is_some o ≡ true → is_some o' ≡ true
  some_bare (Some page) (Some page') is there = refl
  some_bare (Some page) None is there = absurd (none-some _ is)
  some_bare None o' is there = cc

  pub pages_on : (old between new : List (ℕ × PageValue S)) → KeepsPages old between → KeepsPages between new → KeepsPages old new
  pages_on old between new first second = record {
    places = λ page place at. second.places page place (first.places page place at);
    bare = λ page there. second.bare page (some_bare (page_at old page) (page_at between page) (first.bare page there) there) ∙ first.bare page there;
    fresh = λ page value none is. by_page page value none is (page_at between page) refl;
  }
    where
      by_page : (page : ℕ) (value : PageValue S) → page_at old page ≡ None → page_at new page ≡ Some value → (o : Option (PageValue S)) → page_at between page ≡ o → value ≡ fresh_zero_page
      by_page page value none is None at = second.fresh page value at is
      by_page page value none is (Some middle) at =
          let bare : Some (with_bytes value []) ≡ Some (with_bytes middle []) =
          ap (option_map (λ p. with_bytes p [])) (sym is) ∙ second.bare page (ap is_some at) ∙ ap (option_map (λ p. with_bytes p [])) at in
          zero_bare value (same_Some _ _ bare ∙ ap (λ p. with_bytes p []) (first.fresh page middle none at))

  -- ---- the laws of a hart's accesses

  pub access_itself : (hart : ℕ) (memory : PagedValue S) → KeepsAccess hart memory memory
  access_itself hart memory = record {
    process = refl;
    pages = pages_itself memory.pages;
    harts = refl;
    others = λ h other. refl;
    used = λ page small is. is;
    changed = λ page small is. is;
    held = λ page is. inr is;
    tabled = λ page small. refl;
    goes = goes_itself memory.tables (slice_index_or memory.caches hart []);
    copies = copies_itself memory;
  }

  pub lacked : (old new : List (ℕ × PageValue S)) (page : ℕ) → KeepsPages old new → LacksPage new page → LacksPage old page
  lacked old new page kept = by_seen (λ s s'. is_resident s' ≡ false → is_resident s ≡ false) old new kept page (λ s is. is) (λ is. refl)

  pub had_resident : (old new : List (ℕ × PageValue S)) (page : ℕ) → KeepsPages old new → is_resident (seen_at new page) ≡ true → is_resident (seen_at old page) ≡ true
  had_resident old new page kept = by_seen (λ s s'. is_resident s' ≡ true → is_resident s ≡ true) old new kept page (λ s is. is) (λ is. cc)

  pub had : (hart page : ℕ) (old new : PagedValue S) → KeepsAccess hart old new → HasPage new.pages (slice_index_or new.caches hart []) page → HasPage old.pages (slice_index_or old.caches hart []) page
  had hart page old new kept (inl resident) = inl (had_resident old.pages new.pages page kept.pages resident)
  had hart page old new kept (inr held) = kept.held page held

  pub access_on : (hart : ℕ) (old between new : PagedValue S) → KeepsAccess hart old between → KeepsAccess hart between new → KeepsAccess hart old new
  access_on hart old between new first second = record {
    process = second.process ∙ first.process;
    pages = pages_on old.pages between.pages new.pages first.pages second.pages;
    harts = second.harts ∙ first.harts;
    others = λ h other. second.others h other ∙ first.others h other;
    used = λ page small is. second.used page small (first.used page small is);
    changed = λ page small is. second.changed page small (first.changed page small is);
    held = λ page is. had hart page old between first (second.held page is);
    tabled = λ page small. second.tabled page small ∙ first.tabled page small;
    goes = goes_on old.tables between.tables new.tables (slice_index_or old.caches hart []) (slice_index_or between.caches hart []) (slice_index_or new.caches hart []) first.goes second.goes;
    copies = copies_on old between new first.copies second.copies;
  }

  pub marked : (hart page : ℕ) (opening : List Translation) (old new : PagedValue S) → KeepsAccess hart old new → MarksSince old opening page → MarksSince new opening page
  marked hart page opening old new kept (small, inl used) = (small, inl (kept.used page small used))
  marked hart page opening old new kept (small, inr doomed) = (small, inr doomed)

  pub used_since : (hart page : ℕ) (opening : List Translation) (old new : PagedValue S) → KeepsAccess hart old new → UsedSince hart old opening page → UsedSince hart new opening page
  used_since hart page opening old new kept used = (
    marked hart page opening old new kept used.0,
    shown_on opening (cache_of old.caches hart) (cache_of new.caches hart) page kept.goes.filled used.1,
  )

  -- ---- one access

  written_pages : {number : ℕ} (old new : List (ℕ × PageValue S)) → KeepsBare number old new → KeepsPages old new
  written_pages old new kept = record {
    places = λ page place at. kept.places page ∙ at;
    bare = λ page there. kept.bare page;
    fresh = λ page value none is. absurd (none-some _ (sym (ap (option_map (λ p. with_bytes p [])) none) ∙ sym (kept.bare page) ∙ ap (option_map (λ p. with_bytes p [])) is));
  }

  -- one that may write to a page
  pub access_written : (hart number : ℕ) (old new : PagedValue S) → new.process ≡ old.process → KeepsBare number old.pages new.pages
      → KeepsTranslations old.pages hart number old.tables new.tables old.caches new.caches → (new.pages ≡ old.pages) ⊎ TakesStores old.pages new.tables number → KeepsAccess hart old new
  access_written hart number old new process bare kept told =
      let pages = written_pages old.pages new.pages bare in
      record {
        process = process;
        pages = pages;
        harts = kept.harts;
        others = kept.others;
        used = λ page small is. ap (λ s. is_used s (entry_at new.tables page)) (seen_all page) ∙ kept.used page small is;
        changed = λ page small is. ap (λ s. is_dirty s (entry_at new.tables page)) (seen_all page) ∙ kept.changed page small is;
        held = kept.held;
        tabled = kept.tabled;
        goes = goes_filled number old.tables new.tables (slice_index_or old.caches hart []) (slice_index_or new.caches hart []) kept.fills;
        copies = copies_kept old new (λ page there. bare.bare page)
            (λ page small is. ap (λ s. is_dirty s (entry_at new.tables page)) (seen_all page) ∙ kept.changed page small is)
            (λ page small there. by_told told page);
      }
    where
      seen_all : (page : ℕ) → seen_at new.pages page ≡ seen_at old.pages page
      seen_all page = sym (seen_bare (page_at new.pages page)) ∙ ap (option_map seen_of) (bare.bare page) ∙ seen_bare (page_at old.pages page)

      -- each page is what it was, or takes stores
      by_told : (new.pages ≡ old.pages) ⊎ TakesStores old.pages new.tables number → (page : ℕ) → (page_at new.pages page ≡ page_at old.pages page) ⊎ (takes_stores (seen_at new.pages page) (entry_at new.tables page) ≡ true)
      by_told (inl same) page = inl (ap (λ pages. page_at pages page) same)
      by_told (inr takes) page =
          elim (eqb_tells page number) [
            | inl at ↦ inr (ap (λ s. takes_stores s (entry_at new.tables page)) (seen_all page) ∙ ap (λ n. takes_stores (seen_at old.pages n) (entry_at new.tables n)) at.1 ∙ takes)
            | inr apart ↦ inl (bare.others page apart.1)
          ]

  -- pages that were mapped
  pub access_grown : (hart : ℕ) (old new : PagedValue S) → new.process ≡ old.process → KeepsPages old.pages new.pages → ((page : ℕ) → is_some (page_at old.pages page) ≡ true → page_at new.pages page ≡ page_at old.pages page) → new.tables ≡ old.tables → new.caches ≡ old.caches → KeepsAccess hart old new
  access_grown hart old new process pages stays tables caches = record {
    process = process;
    pages = pages;
    harts = ap length caches;
    others = λ h other. ap (λ c. slice_index_or c h []) caches;
    used = λ page small is. ap (λ t. is_used (seen_at new.pages page) (entry_at t page)) tables
        ∙ by_seen (λ s s'. is_used s (entry_at old.tables page) ≡ true → is_used s' (entry_at old.tables page) ≡ true) old.pages new.pages pages page (λ s same. same) (λ no. cc) is;
    changed = λ page small is. ap (λ t. is_dirty (seen_at new.pages page) (entry_at t page)) tables
        ∙ by_seen (λ s s'. is_dirty s (entry_at old.tables page) ≡ true → is_dirty s' (entry_at old.tables page) ≡ true) old.pages new.pages pages page (λ s same. same) (λ no. cc) is;
    held = λ page is. inr (subst (λ c. is_some (translation_of page (slice_index_or c hart [])) ≡ true) caches is);
    tabled = λ page small. ap (λ t. has_table t page) tables;
    goes = subst (λ t. GoesOn old.tables t (slice_index_or old.caches hart []) (slice_index_or new.caches hart [])) (sym tables)
        (subst (λ c. GoesOn old.tables old.tables (slice_index_or old.caches hart []) (slice_index_or c hart [])) (sym caches) (goes_itself old.tables (slice_index_or old.caches hart [])));
    copies = copies_kept old new (λ page there. pages.bare page there)
        (λ page small is. ap (λ t. is_dirty (seen_at new.pages page) (entry_at t page)) tables
        ∙ by_seen (λ s s'. is_dirty s (entry_at old.tables page) ≡ true → is_dirty s' (entry_at old.tables page) ≡ true) old.pages new.pages pages page (λ s same. same) (λ no. cc) is)
        (λ page small there. inl (stays page there));
  }

  -- a hart's turn goes on over its access
  pub still_in_turn : (hart number : ℕ) (opening : List Translation) (old new : PagedValue S) → InTurn hart opening old → KeepsTranslations old.pages hart number old.tables new.tables old.caches new.caches → InTurn hart opening new
  still_in_turn hart number opening old new turn kept = record {
    started = (let was = turn.started in let same = kept.harts in omega (arith, was, same));
    doomed = λ page t found is. turn.doomed page t (kept.doomed page t found is) is;
    filled = ∥∥₁_map turn.filled (λ filled. filled_on (λ _. true) opening (cache_of old.caches hart) (cache_of new.caches hart) filled (goes_filled number old.tables new.tables (cache_of old.caches hart) (cache_of new.caches hart) kept.fills).filled);
    marked = λ page t small found dirty clean. elim ((goes_filled number old.tables new.tables (cache_of old.caches hart) (cache_of new.caches hart) kept.fills).carried page t small found) [
      | inl was ↦ turn.marked page t small was.0 dirty (sym was.1 ∙ clean)
      | inr filled ↦ absurd (true≢false (sym dirty ∙ filled.1 ∙ clean))
    ];
  }

  -- it begins
  pub turn_opens : (hart : ℕ) (opening : List Translation) (memory : PagedValue S) → hart < length memory.caches → cache_of memory.caches hart ≡ opening → InTurn hart opening memory
  turn_opens hart opening memory started same = record {
    started = started;
    doomed = λ page t found is. ap (translation_of page) (sym same) ∙ found;
    filled = ∣ subst (λ c. FilledFrom (λ _. true) opening c) (sym same) (filled_itself (λ _. true) opening) ∣₁;
    marked = λ page t small found dirty clean. ap (translation_of page) (sym same) ∙ found;
  }
