-- A translation cache: the entries of pages, at most 16, at most one for each page, the oldest first.
use Rattle.std.specs.Prelude.{◌≡◌, ◌≢◌, ℕ, Bool, true, false, ◌==◌, ◌||◌, ◌&&◌, not, nat_lt, if◌then◌else◌, Option, Some, None, List, [], ◌∷◌, ◌++◌, length, drop, map, filter, find, position, slice_set, AllPairs}
use Rattle.std.specs.List.{list_any}
use Rattle.page_memory.specs.declared.words.Access.{Access}
use Rattle.page_memory.specs.declared.words.Access.TheVariants.{Store}
use Rattle.page_memory.specs.Rights.{may}
use Rattle.tlb_core.specs.declared.translation.Translation.{Translation}

-- each page has at most one entry
pub record OnePerPage (cache : List Translation) : Type 0 where
  pub apart : AllPairs (λ a b. a.page ≢ b.page) cache

-- whether an entry is this page's
abbrev pub is_of_page : ℕ → Translation → Bool
is_of_page page e = e.page == page

-- the entry of a page
abbrev pub translation_of : ℕ → List Translation → Option Translation
translation_of page cache = find (is_of_page page) cache

-- whether an entry has the dirty mark, if there is one
abbrev pub has_mark : Option Translation → Bool
has_mark None = false
has_mark (Some e) = e.dirty

-- whether a page has an entry with the dirty mark
abbrev pub holds_mark : ℕ → List Translation → Bool
holds_mark page cache = list_any (λ e. is_of_page page e && e.dirty) cache

-- a cache shows the place of a page for an access: it has a translation with the right, and for a store with D
pub record Hits (cache : List Translation) (access : Access) (page place : ℕ) : Type 0 where
  pub entry : Translation
  pub found : translation_of page cache ≡ Some entry
  pub at : entry.place ≡ place
  pub allowed : may access entry.rights ≡ true
  pub dirty : access ≡ Store → entry.dirty ≡ true

-- the cache with room for one more: the oldest of 16 goes
unfoldable pub with_room : List Translation → List Translation
with_room cache = if nat_lt (length cache) 16 then cache else drop 1 cache

-- an entry put in at the place of its page's, or else after the others
unfoldable pub filled_at : Translation → List Translation → Option ℕ → List Translation
filled_at entry cache (Some place) = slice_set cache place entry
filled_at entry cache None = with_room cache ++ entry ∷ []

unfoldable pub filled : Translation → List Translation → List Translation
filled entry cache = filled_at entry cache (position (is_of_page entry.page) cache)

-- an entry, marked as one to be dropped if it is this page's
abbrev pub doomed_entry : ℕ → Translation → Translation
doomed_entry page e = record e { doomed = e.doomed || is_of_page page e }

-- the cache with the entry of a page marked
unfoldable pub doomed : ℕ → List Translation → List Translation
doomed page cache = map (doomed_entry page) cache

-- the cache without the entries that are marked
unfoldable pub undoomed : List Translation → List Translation
undoomed cache = filter (λ e. not e.doomed) cache
