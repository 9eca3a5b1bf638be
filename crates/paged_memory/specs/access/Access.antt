-- An access of a hart to a page: by what its cache holds, or by a walk.
use Rattle.std.specs.Prelude.{◌≡◌, ◌≢◌, ℕ, ◌^◌, ◌<◌, Bool, true, false, if◌then◌else◌, Option, Some, None, option_map, is_some, Result, Ok, Err, IsOk, List, [], slice_index_or, length, ◌⊎◌}
use Rattle.page_memory.specs.declared.words.Access.{Access}
use Rattle.page_memory.specs.declared.fault.MemoryFault.{MemoryFault}
use Rattle.page_memory.specs.declared.fault.MemoryFault.TheVariants.{PageFault}
use Rattle.rv_exec.specs.declared.bus.BusError.{BusError}
use Rattle.rv_exec.specs.declared.bus.BusError.TheVariants.{Fault, Absent}
use Rattle.page_memory.specs.declared.words.Access.TheVariants.{Store}
use Rattle.page_memory.specs.Rights.{may}
use Rattle.page_memory.specs.declared.rights.Rights.{Rights}
use Rattle.paged_memory.specs.Calls.{IsResident}
use Rattle.page_memory.specs.Pages.{Page}
use Rattle.page_memory.specs.Entries.{place_of, value_at}
use Rattle.page_store.specs.PageValue.{PageValue, Place, writable}
use Rattle.page_store.specs.PageValue as place
use Rattle.page_store.specs.Lending.{with_bytes}
use Rattle.sv32_table.specs.EntryAt.{entry_at, ChangesEntry, SameTables, walked_entry}
use Rattle.tlb_core.specs.declared.translation.Translation.{Translation}
use Rattle.tlb_core.specs.Cache.{translation_of, Hits}
use Rattle.paged_memory.specs.Seen.{Seen, Standing, Resident, Leaving, Elsewhere, is_used, is_dirty, takes_stores}
use Rattle.paged_memory.specs.access.OwnCache.{KeepsDoomed, MayFill}
use Rattle.paged_memory.specs.Paged.{seen_of, page_at, seen_at}

abbrev pub is_resident_standing : Standing → Bool
is_resident_standing (Resident frame loose) = true
is_resident_standing (Leaving frame mark loose) = false
is_resident_standing Elsewhere = false

abbrev pub is_resident : Option Seen → Bool
is_resident (Some seen) = is_resident_standing seen.standing
is_resident None = false

-- a hart's cache
abbrev pub cache_of : List (List Translation) → ℕ → List Translation
cache_of caches hart = slice_index_or caches hart []

module _ {S : Type 0} where
  -- a page that an access may use at its place: it has the right, and its frame may be read and written; for a store it
  -- takes stores
  pub record Reaches (pages : List (ℕ × PageValue S)) (tables : List (List ℕ)) (access : Access) (number place : ℕ) : Type 0 where
    pub page : PageValue S
    pub at : place_of number pages ≡ Some place
    pub value : value_at place pages ≡ Some page
    pub allowed : may access page.origin.rights ≡ true
    pub framed : is_some (writable page.place) ≡ true
    pub changed : access ≡ Store → takes_stores (Some (seen_of page)) (entry_at tables number) ≡ true

  -- a page takes stores: it is marked as dirty, or it counts as changed whatever its mark is, with no copy of it out
  abbrev pub TakesStores : List (ℕ × PageValue S) → List (List ℕ) → ℕ → Type 0
  TakesStores pages tables page = takes_stores (seen_at pages page) (entry_at tables page) ≡ true

  -- the pages that a hart can use without that one is brought in: those that are resident, and those that its cache holds
  abbrev pub HasPage : List (ℕ × PageValue S) → List Translation → ℕ → Type 0
  HasPage pages cache page = (is_resident (seen_at pages page) ≡ true) ⊎ (is_some (translation_of page cache) ≡ true)

  -- the pages that are not resident, mapped or not
  abbrev pub LacksPage : List (ℕ × PageValue S) → ℕ → Type 0
  LacksPage pages page = is_resident (seen_at pages page) ≡ false

  -- a resident page at its place, with the right for an access, its frame's number and its rights
  pub record Locates (pages : List (ℕ × PageValue S)) (access : Access) (number place frame : ℕ) (rights : Rights) : Type 0 where
    pub resident : IsResident pages number
    pub at : place_of number pages ≡ Some place
    pub frame_is : resident.frame.number ≡ frame
    pub rights_is : resident.origin.rights ≡ rights
    pub allowed : may access resident.origin.rights ≡ true

  -- the page that an access may use, by what memory has at its number
  abbrev pub page_with_right : Access → Option (PageValue S) → Result (PageValue S) MemoryFault
  page_with_right access None = Err PageFault
  page_with_right access (Some page) = if may access page.origin.rights then Ok page else Err PageFault

  -- why a hart's access to a page is not answered, where it has no translation for it: the page is not mapped or has not
  -- the right, which comes first, or it is not resident
  abbrev pub RefusesAccess : List (ℕ × PageValue S) → Access → ℕ → BusError → Type 0
  RefusesAccess pages access page (Fault fault) = page_with_right access (page_at pages page) ≡ Err fault
  RefusesAccess pages access page (Absent absent) = (absent ≡ page) × (IsOk (page_with_right access (page_at pages page)) × LacksPage pages page)

-- an access goes through a translation in this cache that is to be dropped
pub record ServedDoomed (cache : List Translation) (access : Access) (page : ℕ) : Type 0 where
  pub place : ℕ
  pub hits : Hits cache access page place
  pub doomed : hits.entry.doomed ≡ true

-- a translation in this cache serves an access to a page, whether it is to be dropped or not
pub record Serves (cache : List Translation) (access : Access) (page : ℕ) : Type 0 where
  pub place : ℕ
  pub hits : Hits cache access page place

-- a page's use by an access is marked: its A is set, unless the access goes through a translation that is to be dropped
abbrev pub MarksUse : {S : Type 0} → List (ℕ × PageValue S) → List (List ℕ) → List Translation → Access → ℕ → Type 0
MarksUse pages tables cache access page = (is_used (seen_at pages page) (entry_at tables page) ≡ true) ⊎ ServedDoomed cache access page

-- an access may use a page of these bytes
abbrev pub UsesBytes : Result Page MemoryFault → List ℕ → Type 0
UsesBytes (Ok page) bytes = page.bytes ≡ bytes
UsesBytes (Err fault) bytes = ⊥

-- a page but for the bytes in its frame: its rights, what it began with, where it is, its frame's number and its slot
abbrev pub bare_at : {S : Type 0} → List (ℕ × PageValue S) → ℕ → Option (PageValue S)
bare_at pages number = option_map (λ page. with_bytes page []) (page_at pages number)

-- pages stay where they are; only one changes, and only in the bytes in its frame
pub record KeepsBare {S : Type 0} (number : ℕ) (old new : List (ℕ × PageValue S)) : Type 0 where
  pub bare : (page : ℕ) → bare_at new page ≡ bare_at old page
  pub places : (page : ℕ) → place_of page new ≡ place_of page old
  pub others : (page : ℕ) → page ≢ number → page_at new page ≡ page_at old page

-- what stays over a hart's access to a page, besides what the memory holds: all other caches; no table is added, and no page's A
-- or D falls; the hart's cache gets only translations of resident pages, and none that is to be dropped; and the translation, if
-- any, that a walk fills for the page
pub record KeepsTranslations {S : Type 0} (pages : List (ℕ × PageValue S)) (hart number : ℕ) (tables tables' : List (List ℕ)) (caches caches' : List (List Translation)) : Type 0 where
  pub harts : length caches' ≡ length caches
  pub others : (h : ℕ) → h ≢ hart → cache_of caches' h ≡ cache_of caches h
  pub used : (page : ℕ) → page < 2 ^ 20 → is_used (seen_at pages page) (entry_at tables page) ≡ true → is_used (seen_at pages page) (entry_at tables' page) ≡ true
  pub changed : (page : ℕ) → page < 2 ^ 20 → is_dirty (seen_at pages page) (entry_at tables page) ≡ true → is_dirty (seen_at pages page) (entry_at tables' page) ≡ true
  pub held : (page : ℕ) → is_some (translation_of page (cache_of caches' hart)) ≡ true → HasPage pages (cache_of caches hart) page
  pub doomed : KeepsDoomed (cache_of caches hart) (cache_of caches' hart)
  pub tabled : SameTables tables tables'
  pub fills : MayFill number tables tables' (cache_of caches hart) (cache_of caches' hart)

-- the number of a resident page's frame
abbrev pub resident_frame : {S : Type 0} → Place S → Option ℕ
resident_frame place.Fresh = None
resident_frame (place.Resident frame slot) = Some frame.number
resident_frame (place.Leaving frame slot mark) = None
resident_frame (place.Saving frame mark) = None
resident_frame (place.Away slot) = None
resident_frame place.Purged = None

-- an answer other than that the page is absent
abbrev pub IsAnswered : {A : Type 0} → Result A BusError → Type 0
IsAnswered (Ok answer) = Unit {0}
IsAnswered (Err (Fault fault)) = Unit {0}
IsAnswered (Err (Absent page)) = ⊥

-- a page that a hart's cache shows for an access is never absent to it, whether the translation is to be dropped or not
abbrev pub ServesHeld : {A : Type 0} → List Translation → Access → ℕ → Result A BusError → Type 0
ServesHeld cache access page result = (place : ℕ) → Hits cache access page place → IsAnswered result

-- the tables are as they were, or only the page's entry changes, to what a walk for the access leaves
abbrev pub MayWalk : Access → ℕ → List (List ℕ) → List (List ℕ) → Type 0
MayWalk access page old new = (new ≡ old) ⊎ ChangesEntry old new page (walked_entry (entry_at old page) access)
