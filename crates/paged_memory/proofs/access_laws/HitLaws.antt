-- A hart's cache shows the place of a page for an access.
use Rattle.std.specs.Prelude.{◌≡◌, ℕ, ◌<◌, Bool, true, false, Some, option_map, is_some, List, [], All, length, refl}
use Rattle.std.proofs.Common.{sym, ap, ◌∙◌, subst, inl, inr}
use Rattle.std.proofs.lemmas.List.Elements.{All-get_or}
use Rattle.page_memory.specs.declared.words.Access.{Access}
use Rattle.page_memory.specs.declared.words.Access.TheVariants.{Store}
use Rattle.page_memory.specs.Rights.{may}
use Rattle.page_memory.specs.Entries.{place_of}
use Rattle.page_memory.proofs.EntriesLaws.{has_value}
use Rattle.page_store.specs.PageValue.{PageValue, Place, Fresh, Resident, Leaving, Saving, Away, Purged, writable}
use Rattle.sv32_table.specs.EntryAt.{entry_at}
use Rattle.tlb_core.specs.declared.translation.Translation.{Translation}
use Rattle.tlb_core.specs.Cache.{Hits}
use Rattle.tlb_core.proofs.CacheLaws.{All-entry_of, page-entry_of}
use Rattle.paged_memory.specs.Seen.{frame_seen, frame_standing, rights_seen, takes_stores}
use Rattle.paged_memory.specs.Soundness.{IsSound}
use Rattle.paged_memory.specs.access.Access.{Reaches, HasPage, MarksUse, TakesStores, cache_of}
use Rattle.paged_memory.specs.Paged.{standing_of, seen_of, seen_at, Holds}
use Rattle.paged_memory.proofs.move_laws.PagedLaws.{page_at-place}

-- a page with a frame that translations may lead to can be written
writable_framed : {S : Type 0} (place : Place S) (frame : ℕ) → frame_standing (standing_of place) ≡ Some frame → is_some (writable place) ≡ true
writable_framed Fresh frame is = cc
writable_framed (Resident f slot) frame is = refl
writable_framed (Leaving f slot mark) frame is = refl
writable_framed (Saving f mark) frame is = cc
writable_framed (Away slot) frame is = cc
writable_framed Purged frame is = cc

module _ {S : Type 0} {held : S → List ℕ} {honest : Type 0} {pages : List (ℕ × PageValue S)} {tables : List (List ℕ)} {caches : List (List Translation)} (number hart place : ℕ) (access : Access) (holds : Holds held honest pages tables caches) (within : hart < length caches) (hits : Hits (cache_of caches hart) access number place) where
  sound : IsSound (seen_at pages hits.entry.page) (entry_at tables hits.entry.page) hits.entry
  sound = All-entry_of (λ t. IsSound (seen_at pages t.page) (entry_at tables t.page) t) number (cache_of caches hart) hits.entry (All-get_or (λ cache. All (λ t. IsSound (seen_at pages t.page) (entry_at tables t.page) t) cache) caches hart [] within holds.agree.cached) hits.found

  placed : place_of hits.entry.page pages ≡ Some hits.entry.place
  placed = All-entry_of (λ t. place_of t.page pages ≡ Some t.place) number (cache_of caches hart) hits.entry (All-get_or (λ cache. All (λ t. place_of t.page pages ≡ Some t.place) cache) caches hart [] within holds.placed) hits.found

  its_page : hits.entry.page ≡ number
  its_page = page-entry_of number (cache_of caches hart) hits.entry hits.found

  at : place_of number pages ≡ Some place
  at = ap (λ n. place_of n pages) (sym its_page) ∙ placed ∙ ap Some hits.at

  sound_here : IsSound (seen_at pages number) (entry_at tables number) hits.entry
  sound_here = subst (λ n. IsSound (seen_at pages n) (entry_at tables n) hits.entry) its_page sound

  -- the access reaches the page there
  pub reaches_hit : Reaches pages tables access number place
  reaches_hit =
      let there = has_value pages number place at in
      let page = there.0 in
      let found = page_at-place pages number place page at there.1 in
      let seen_is : seen_at pages number ≡ Some (seen_of page) = ap (option_map seen_of) found in
      let rights_is : Some page.origin.rights ≡ Some hits.entry.rights = ap rights_seen (sym seen_is) ∙ sound_here.rights in
      let frame_is : frame_standing (standing_of page.place) ≡ Some hits.entry.frame = ap frame_seen (sym seen_is) ∙ sound_here.frame in
      let rights_same : page.origin.rights ≡ hits.entry.rights = cc in
      record {
        page = page;
        at = at;
        value = there.1;
        allowed = ap (may access) rights_same ∙ hits.allowed;
        framed = writable_framed page.place hits.entry.frame frame_is;
        changed = λ is. ap (λ s. takes_stores s (entry_at tables number)) (sym seen_is) ∙ sound_here.changed (hits.dirty is);
      }

  pub has_hit : HasPage pages (cache_of caches hart) number
  has_hit = inr (ap is_some hits.found)

  pub marks_hit : MarksUse pages tables (cache_of caches hart) access number
  marks_hit = by_mark hits.entry.doomed refl
    where
      by_mark : (b : Bool) → hits.entry.doomed ≡ b → MarksUse pages tables (cache_of caches hart) access number
      by_mark true is = inr (record { place = place; hits = hits; doomed = is })
      by_mark false is = inl (sound_here.used is)

-- a page that a store may use takes stores
pub reaches_takes : {S : Type 0} (pages : List (ℕ × PageValue S)) (tables : List (List ℕ)) (access : Access) (number place : ℕ) → Reaches pages tables access number place → access ≡ Store → TakesStores pages tables number
reaches_takes pages tables access number place reaches is =
    ap (λ s. takes_stores s (entry_at tables number)) (ap (option_map seen_of) (page_at-place pages number place reaches.page reaches.at reaches.value)) ∙ reaches.changed is
