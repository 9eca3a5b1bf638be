-- The pages that were used last, each with a place: one for fetches, and for loads and for stores one for each number of a page number's low bits.
use Rattle.std.specs.Prelude.{ℕ, ◌*◌, ◌/◌, ◌%◌, ◌==◌, if◌then◌else◌, replicate, slice_index_or, slice_set}
use Rattle.page_memory.specs.declared.words.Access.{Access}
use Rattle.page_memory.specs.declared.words.Access.TheVariants.{Fetch, Load, Store}
use Rattle.page_memory.specs.declared.recent_pages.RecentPage.{RecentPage}
use Rattle.page_memory.specs.declared.recent_pages.RecentPages.{RecentPages}
use Rattle.page_memory.specs.Words.{page_number}

-- no page: past all addresses
abbrev pub nowhere : RecentPage
nowhere = record { start = 4294967296; place = 0 }

abbrev pub no_recent : RecentPages
no_recent = record { fetched = nowhere; loaded = replicate 64 nowhere; stored = replicate 64 nowhere }

-- what may serve an access to a page: the one that is fetched from, or that of the page number's low bits
abbrev pub recent_of : Access → ℕ → RecentPages → RecentPage
recent_of Fetch page pages = pages.fetched
recent_of Load page pages = slice_index_or pages.loaded (page % 64) nowhere
recent_of Store page pages = slice_index_or pages.stored (page % 64) nowhere

-- with a page kept for an access
abbrev pub with_recent : Access → ℕ → RecentPage → RecentPages → RecentPages
with_recent Fetch page recent pages = record pages { fetched = recent }
with_recent Load page recent pages = record pages { loaded = slice_set pages.loaded (page % 64) recent }
with_recent Store page recent pages = record pages { stored = slice_set pages.stored (page % 64) recent }

abbrev pub learned : Access → ℕ → ℕ → RecentPages → RecentPages
learned access address at pages = with_recent access (page_number address) (record { start = address / 4096 * 4096; place = at }) pages

-- and without a page
abbrev pub unless_of : ℕ → RecentPage → RecentPage
unless_of page recent = if recent.start / 4096 == page then nowhere else recent

abbrev pub forgotten : ℕ → RecentPages → RecentPages
forgotten page pages = record {
  fetched = unless_of page pages.fetched;
  loaded = slice_set pages.loaded (page % 64) nowhere;
  stored = slice_set pages.stored (page % 64) nowhere;
}

-- what holds of each page that may serve an access
abbrev pub Each : (Access → ℕ → RecentPage → Type 0) → RecentPages → Type 0
Each holds pages = (access : Access) (page : ℕ) → holds access page (recent_of access page pages)
