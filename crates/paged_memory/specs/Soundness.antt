-- How pages, table entries and cached translations go together.
use Rattle.std.specs.Prelude.{◌≡◌, ℕ, ◌^◌, ◌<◌, Bool, true, false, is_some, Option, Some, List, All}
use Rattle.std.specs.List.{list_any}
use Rattle.page_memory.specs.declared.rights.Rights.{Rights}
use Rattle.page_memory.specs.declared.words.Access.TheVariants.{Load, Store}
use Rattle.page_memory.specs.Rights.{may}
use Rattle.sv32_table.specs.Entry.{Entry}
use Rattle.tlb_core.specs.declared.translation.Translation.{Translation}
use Rattle.tlb_core.specs.Cache.{translation_of, holds_mark}
use Rattle.paged_memory.specs.Seen.{Seen, entry_seen, frame_seen, rights_seen, takes_stores, is_used}

-- a page has the table entry of its frame and rights while it is resident, and none else; and a page that may be written
-- may be read
pub record IsMapped (page : Option Seen) (e : Entry) : Type 0 where
  pub entry : e ≡ entry_seen page e.accessed e.dirty
  pub readable : (rights : Rights) → rights_seen page ≡ Some rights → may Store rights ≡ true → may Load rights ≡ true

-- a cached translation of a page is sound: it names the frame that the page holds, and its rights; a store needs no walk
-- only where the page takes stores already; and unless the translation is to be dropped, the page is resident
-- and its A is set
pub record IsSound (page : Option Seen) (e : Entry) (t : Translation) : Type 0 where
  pub small : t.page < 2 ^ 20
  pub frame : frame_seen page ≡ Some t.frame
  pub rights : rights_seen page ≡ Some t.rights
  pub changed : t.dirty ≡ true → takes_stores page e ≡ true
  pub used : t.doomed ≡ false → is_used page e ≡ true

-- pages and table entries by page number, and the caches of all harts
pub record Agree (pages : ℕ → Option Seen) (entries : ℕ → Entry) (caches : List (List Translation)) : Type 0 where
  pub mapped : (page : ℕ) → page < 2 ^ 20 → IsMapped (pages page) (entries page)
  pub cached : All (λ cache. All (λ t. IsSound (pages t.page) (entries t.page) t) cache) caches

-- whether a cache holds a translation of the page with the dirty mark
abbrev pub is_marked : ℕ → List (List Translation) → Bool
is_marked page caches = list_any (λ cache. holds_mark page cache) caches

-- whether a cache holds a translation of the page
abbrev pub is_held : ℕ → List (List Translation) → Bool
is_held page caches = list_any (λ cache. is_some (translation_of page cache)) caches
