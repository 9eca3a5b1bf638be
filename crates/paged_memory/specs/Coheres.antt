-- How the pages, tables and caches of a process agree with one another.
use Rattle.std.specs.Prelude.{ℕ, List}
use Rattle.paged_memory.specs.Coherence.{MarksClear, HoldsFramed, CopiesUnmarked, WalksLead}
use Rattle.paged_memory.specs.Paged.{PagedValue, Holds}

module _ {S : Type 0} where
  -- the same words of a memory as a whole
  abbrev pub HoldsIn : (S → List ℕ) → Type 0 → PagedValue S → Type 0
  HoldsIn held honest memory = Holds held honest memory.pages memory.tables memory.caches

  abbrev pub MarksClearIn : PagedValue S → Type 0
  MarksClearIn memory = MarksClear memory.pages memory.tables memory.caches

  abbrev pub HoldsFramedIn : PagedValue S → Type 0
  HoldsFramedIn memory = HoldsFramed memory.pages memory.caches

  abbrev pub CopiesUnmarkedIn : PagedValue S → Type 0
  CopiesUnmarkedIn memory = CopiesUnmarked memory.pages memory.tables memory.caches

  abbrev pub WalksLeadIn : PagedValue S → Type 0
  WalksLeadIn memory = WalksLead memory.pages memory.tables

-- Each table entry is its page's, each cached translation is sound, and a page that is not changed equals its backing. Where the
-- accessed bit of a resident page is clear, each translation of it is to be dropped. No cache holds a page that is being saved or
-- is away. A page with a copy out, and no store reported since, has no translation through which a store would go unreported.
-- A walk leads into a resident page's frame by a right that it has, and is a page fault for any other.
pub record Coheres {S : Type 0} (held : S → List ℕ) (honest : Type 0) (memory : PagedValue S) : Type 0 where
  pub agree : HoldsIn held honest memory
  pub accessed : MarksClearIn memory
  pub framed : HoldsFramedIn memory
  pub unmarked : CopiesUnmarkedIn memory
  pub walks : WalksLeadIn memory
