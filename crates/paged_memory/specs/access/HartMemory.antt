-- What a hart's accesses keep of a process's memory, beside what it holds.
use Rattle.std.specs.Prelude.{◌≡◌, ◌≢◌, ℕ, ◌^◌, ◌<◌, ◌⊎◌, Bool, true, false, is_some, Some, None, List, length}
use Rattle.page_memory.specs.Entries.{place_of}
use Rattle.page_store.specs.PageValue.{PageValue, fresh_zero_page}
use Rattle.sv32_table.specs.EntryAt.{entry_at, dirty_of, SameTables}
use Rattle.tlb_core.specs.declared.translation.Translation.{Translation}
use Rattle.tlb_core.specs.Cache.{translation_of}
use Rattle.paged_memory.specs.Seen.{is_used, is_dirty}
use Rattle.paged_memory.specs.Paged.{PagedValue, page_at, seen_at}
use Rattle.page_memory.specs.declared.words.Access.{Access}
use Rattle.paged_memory.specs.access.Access.{HasPage, ServedDoomed, bare_at, cache_of}
use Rattle.paged_memory.specs.cleaning.Copies.{KeepsCopies}
use Rattle.paged_memory.specs.access.OwnCache.{fills_of, FilledFrom, GoesOn, KeepsDoomed}

-- pages that were there stay where they are, but for the bytes in their frames; others are pages of zeros that were mapped
pub record KeepsPages {S : Type 0} (old new : List (ℕ × PageValue S)) : Type 0 where
  pub places : (page place : ℕ) → place_of page old ≡ Some place → place_of page new ≡ Some place
  pub bare : (page : ℕ) → is_some (page_at old page) ≡ true → bare_at new page ≡ bare_at old page
  pub fresh : (page : ℕ) (value : PageValue S) → page_at old page ≡ None → page_at new page ≡ Some value → value ≡ fresh_zero_page

-- a hart's accesses: no table is added, and no page's A or D falls; no other hart's cache changes; the hart's own gets
-- only translations of resident pages, and none that is to be dropped; the hart goes on with those that it has; and each copy
-- of a page that was valid is still valid
pub record KeepsAccess {S : Type 0} (hart : ℕ) (old new : PagedValue S) : Type 0 where
  pub process : new.process ≡ old.process
  pub pages : KeepsPages old.pages new.pages
  pub harts : length new.caches ≡ length old.caches
  pub others : (h : ℕ) → h ≢ hart → cache_of new.caches h ≡ cache_of old.caches h
  pub used : (page : ℕ) → page < 2 ^ 20 → is_used (seen_at old.pages page) (entry_at old.tables page) ≡ true → is_used (seen_at new.pages page) (entry_at new.tables page) ≡ true
  pub changed : (page : ℕ) → page < 2 ^ 20 → is_dirty (seen_at old.pages page) (entry_at old.tables page) ≡ true → is_dirty (seen_at new.pages page) (entry_at new.tables page) ≡ true
  pub held : (page : ℕ) → is_some (translation_of page (cache_of new.caches hart)) ≡ true → HasPage old.pages (cache_of old.caches hart) page
  pub tabled : SameTables old.tables new.tables
  pub goes : GoesOn old.tables new.tables (cache_of old.caches hart) (cache_of new.caches hart)
  pub copies : KeepsCopies old new

-- some access went through a translation of the page in this cache that is to be dropped
pub record ServedBefore (cache : List Translation) (page : ℕ) : Type 0 where
  pub access : Access
  pub served : ServedDoomed cache access page

-- a page's use is marked: its A is set, or an access went through the very translation of it, to be dropped, that the hart had
-- when its turn began
abbrev pub MarksSince : {S : Type 0} → PagedValue S → List Translation → ℕ → Type 0
MarksSince memory opening page = (page < 2 ^ 20) × ((is_used (seen_at memory.pages page) (entry_at memory.tables page) ≡ true) ⊎ ServedBefore opening page)

-- a cache is one into which translations were filled since, and another one had a translation of a page, or one of it was filled
pub record ShowsFilled (opening cache : List Translation) (page : ℕ) : Type 0 where
  pub filled : FilledFrom (λ _. true) opening cache
  pub shown : (is_some (translation_of page opening) ≡ true) ⊎ (fills_of filled.more page ≡ true)

-- a hart's cache had a translation of a page when its turn began, or one was filled since
abbrev pub WasShown : List Translation → List Translation → ℕ → Type 0
WasShown opening cache page = ∥ ShowsFilled opening cache page ∥₁

-- a hart used a page: the use is marked, and the hart's cache showed the page
abbrev pub UsedSince : {S : Type 0} → ℕ → PagedValue S → List Translation → ℕ → Type 0
UsedSince hart memory opening page = MarksSince memory opening page × WasShown opening (cache_of memory.caches hart) page

-- a hart that was started, with no translation that is to be dropped but those of when its turn began; one that serves stores was there
-- then, or the page's entry has D
pub record InTurn {S : Type 0} (hart : ℕ) (opening : List Translation) (memory : PagedValue S) : Type 0 where
  pub started : hart < length memory.caches
  pub doomed : KeepsDoomed opening (cache_of memory.caches hart)
  pub filled : ∥ FilledFrom (λ _. true) opening (cache_of memory.caches hart) ∥₁
  pub marked : (page : ℕ) (t : Translation) → page < 2 ^ 20 → translation_of page (cache_of memory.caches hart) ≡ Some t → t.dirty ≡ true
      → dirty_of (entry_at memory.tables page) ≡ false → translation_of page opening ≡ Some t

-- tests hold of pages whose marks are set in the tables: of each page with A the first, and of each with D the second
pub record MarksWithin (tables : List (List ℕ)) (used stored : ℕ → Bool) : Type 0 where
  pub accessed : (page : ℕ) → page < 2 ^ 20 → (entry_at tables page).accessed ≡ true → used page ≡ true
  pub dirty : (page : ℕ) → page < 2 ^ 20 → (entry_at tables page).dirty ≡ true → stored page ≡ true
