-- The pages of a translation cache that are ready: an access uses them by one comparison, without a look-up.
use Rattle.std.specs.Prelude.{◌≡◌, ℕ, ◌*◌, ◌%◌, ◌<◌, ◌≤◌, List}
use Rattle.page_memory.specs.declared.words.Access.{Access}
use Rattle.page_memory.specs.declared.recent_pages.RecentPage.{RecentPage}
use Rattle.page_memory.specs.declared.recent_pages.RecentPages.{RecentPages}
use Rattle.page_memory.specs.RecentPages.{Each}
use Rattle.tlb_core.specs.declared.translation.Translation.{Translation}
use Rattle.tlb_core.specs.Cache.{Hits, OnePerPage}
use Rattle.tlb_core.specs.Crowds.{Counts, pages_of}

-- what is ready starts where a page does, or past all addresses; and where the page starts there the cache shows it at the place for the access
pub record IsShown (cache : List Translation) (access : Access) (page : ℕ) (known : RecentPage) : Type 0 where
  pub multiple : known.start % 4096 ≡ 0
  pub limit : known.start ≤ 4294967296
  pub shown : page * 4096 < 4294967296 → page * 4096 ≡ known.start → Hits cache access page known.place

abbrev pub IsReady : List Translation → RecentPages → Type 0
IsReady cache ready = Each (IsShown cache) ready

-- a cache has at most one entry for a page, and shows what is ready; and its pages are counted
pub record IsCache (cache : List Translation) (ready : RecentPages) (counts : List ℕ) : Type 0 where
  pub one : OnePerPage cache
  pub shows : IsReady cache ready
  pub counted : Counts counts (pages_of cache)
