-- What a hart's accesses, slices and notices say of a process's memory as a whole.
use Rattle.std.specs.Prelude.{◌≡◌, ℕ, Bool, is_some, List, []}
use Rattle.tlb_core.specs.declared.translation.Translation.{Translation}
use Rattle.tlb_core.specs.Cache.{translation_of}
use Rattle.paged_memory.specs.access.Access.{HasPage, LacksPage, cache_of}
use Rattle.paged_memory.specs.access.HartMemory.{KeepsPages, MarksWithin}
use Rattle.paged_memory.specs.access.OwnCache.{GoesOn}
use Rattle.paged_memory.specs.Paged.{PagedValue}

module _ {S : Type 0} where
  -- a hart's cache
  abbrev pub cache_in : PagedValue S → ℕ → List Translation
  cache_in memory hart = cache_of memory.caches hart

  -- whether it holds a translation of a page
  abbrev pub holds_in : PagedValue S → ℕ → ℕ → Bool
  holds_in memory hart page = is_some (translation_of page (cache_in memory hart))

  -- a hart goes on with its translations: each that is to be dropped was there already, none went but to make room or for a newer
  -- one of its page, and what walks filled since carries D
  abbrev pub GoesOnIn : ℕ → PagedValue S → PagedValue S → Type 0
  GoesOnIn hart old new = GoesOn old.tables new.tables (cache_in old hart) (cache_in new hart)

  -- a hart's cache is what it was; it holds nothing
  abbrev pub SameCache : ℕ → PagedValue S → PagedValue S → Type 0
  SameCache hart old new = cache_in new hart ≡ cache_in old hart

  abbrev pub HoldsNone : ℕ → PagedValue S → Type 0
  HoldsNone hart memory = cache_in memory hart ≡ []

  -- the pages that a hart can use without that one is brought in: those that are resident, and those that its cache holds
  abbrev pub HasIn : PagedValue S → ℕ → ℕ → Type 0
  HasIn memory hart = HasPage memory.pages (cache_in memory hart)

  -- the pages that are not resident, mapped or not
  abbrev pub LacksIn : PagedValue S → ℕ → Type 0
  LacksIn memory = LacksPage memory.pages

  -- tests hold of each page with A the first, and of each with D the second
  abbrev pub MarkedIn : PagedValue S → (ℕ → Bool) → (ℕ → Bool) → Type 0
  MarkedIn memory = MarksWithin memory.tables

  -- pages that were there stay where they are, but for the bytes in their frames; others are pages of zeros that were mapped
  abbrev pub KeepsIn : PagedValue S → PagedValue S → Type 0
  KeepsIn old new = KeepsPages old.pages new.pages
