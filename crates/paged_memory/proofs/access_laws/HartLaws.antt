-- What changes in caches alone keeps.
use Rattle.std.specs.Prelude.{◌≡◌, ℕ, ◌<◌, Some, List, [], ◌∷◌, ◌++◌, All, map, length, slice_index_or, slice_set}
use Rattle.std.proofs.lemmas.List.Elements.{All-nil, All-map, All-weaker, All-set, All-push, All-get_or}
use Rattle.page_store.specs.PageValue.{PageValue}
use Rattle.page_memory.specs.Entries.{place_of}
use Rattle.sv32_table.specs.EntryAt.{entry_at}
use Rattle.tlb_core.specs.declared.translation.Translation.{Translation}
use Rattle.tlb_core.specs.Cache.{undoomed}
use Rattle.tlb_core.proofs.CacheLaws.{All-undoomed}
use Rattle.paged_memory.specs.Soundness.{IsSound}
use Rattle.paged_memory.specs.Paged.{seen_at, Holds}

module _ {S : Type 0} {held : S → List ℕ} {honest : Type 0} {pages : List (ℕ × PageValue S)} {tables : List (List ℕ)} {caches : List (List Translation)} (holds : Holds held honest pages tables caches) where
  -- caches of which each keeps what held of all translations
  with_caches : (caches' : List (List Translation)) → ((P : Translation → Type 0) → All (λ cache. All P cache) caches → All (λ cache. All P cache) caches') → Holds held honest pages tables caches'
  with_caches caches' keep =
      record {
        agree = record { mapped = holds.agree.mapped; cached = keep (λ t. IsSound (seen_at pages t.page) (entry_at tables t.page) t) holds.agree.cached };
        tabled = holds.tabled;
        placed = keep (λ t. place_of t.page pages ≡ Some t.place) holds.placed;
        backed = holds.backed;
        constant = holds.constant;
      }

  -- one more hart
  pub holds_added : Holds held honest pages tables (caches ++ [] ∷ [])
  holds_added = with_caches (caches ++ [] ∷ []) (λ P all. All-push (λ cache. All P cache) caches [] all (All-nil P))

  -- a hart's translations that were doomed are dropped
  pub holds_noticed : (hart : ℕ) → hart < length caches → Holds held honest pages tables (slice_set caches hart (undoomed (slice_index_or caches hart [])))
  holds_noticed hart within =
      with_caches (slice_set caches hart (undoomed (slice_index_or caches hart []))) (λ P all. All-set (λ cache. All P cache) caches hart _ (All-undoomed P _ (All-get_or (λ cache. All P cache) caches hart [] within all)) all)

  -- a hart's are all dropped
  pub holds_cleared : (hart : ℕ) → Holds held honest pages tables (slice_set caches hart [])
  holds_cleared hart = with_caches (slice_set caches hart []) (λ P all. All-set (λ cache. All P cache) caches hart [] (All-nil P) all)

  -- all harts' are dropped
  pub holds_emptied : Holds held honest pages tables (map (λ _. []) caches)
  holds_emptied = with_caches (map (λ _. []) caches) (λ P all. All-map (λ cache. All P cache) (λ _. []) caches (All-weaker (λ cache. All P cache) (λ cache. All P []) (λ cache here. All-nil P) caches all))
