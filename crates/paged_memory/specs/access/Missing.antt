-- What an access of a hart leaves, from below: a page that was stored to takes stores, and a hart's cache did not show a page that was
-- absent to it.
use Rattle.std.specs.Prelude.{◌≡◌, ◌⊎◌, ℕ, ◌^◌, ◌<◌, ◌==◌, ◌||◌, Bool, true, false, List, [], ◌∷◌}
use Rattle.page_memory.specs.declared.words.Access.{Access}
use Rattle.page_memory.specs.declared.words.Access.TheVariants.{Store}
use Rattle.sv32_table.specs.EntryAt.{entry_at}
use Rattle.tlb_core.specs.declared.translation.Translation.{Translation}
use Rattle.tlb_core.specs.Cache.{Hits}
use Rattle.paged_memory.specs.access.Access.{Serves, TakesStores}
use Rattle.paged_memory.specs.access.OwnCache.{FilledFrom}
use Rattle.paged_memory.specs.Paged.{PagedValue, seen_at}
use Rattle.paged_memory.specs.Seen.{is_dirty}
use Rattle.paged_memory.specs.access.Using.{cache_in}

-- whether a page is one of these
unfoldable pub is_among : List ℕ → ℕ → Bool
is_among [] page = false
is_among (first ∷ pages) page = (page == first) || is_among pages page

-- a cache does not show a page for an access after accesses to these pages: those filled only translations of their own pages, and then
-- no translation serves the access. A translation that is to be dropped serves too
pub record MissesBehind (cache : List Translation) (pages : List ℕ) (access : Access) (page : ℕ) : Type 0 where
  pub later : List Translation
  pub filled : FilledFrom (is_among pages) cache later
  pub none : (place : ℕ) → ¬ Hits later access page place

module _ {S : Type 0} where
  -- the same of a hart of a process
  abbrev pub MissesIn : PagedValue S → ℕ → List ℕ → Access → ℕ → Type 0
  MissesIn memory hart = MissesBehind (cache_in memory hart)

  -- a page takes stores: its dirty bit reports them, or it counts as changed whatever that bit is, and no copy of it is out
  abbrev pub TakesIn : PagedValue S → ℕ → Type 0
  TakesIn memory page = (page < 2 ^ 20) × TakesStores memory.pages memory.tables page

  -- a page that was stored to takes stores; and its dirty bit is set, unless one of these translations serves stores, which the hart had when
  -- its turn began
  abbrev pub TakesSince : PagedValue S → List Translation → ℕ → Type 0
  TakesSince memory opening page = TakesIn memory page × (Serves opening Store page ⊎ (is_dirty (seen_at memory.pages page) (entry_at memory.tables page) ≡ true))
