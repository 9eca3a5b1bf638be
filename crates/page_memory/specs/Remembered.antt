-- What is remembered of a page that was found: its first address, and where its bytes begin, which tells its place.
use Rattle.std.specs.Prelude.{◌≡◌, ℕ, ◌*◌, ◌/◌, ◌%◌, ◌<◌, ◌≤◌, Bool, true, List, length, Option, Some, option_map}
use Rattle.page_memory.specs.declared.words.Access.{Access}
use Rattle.page_memory.specs.declared.recent_pages.RecentPage.{RecentPage}
use Rattle.page_memory.specs.declared.recent_pages.RecentPages.{RecentPages}
use Rattle.page_memory.specs.Rights.{may}
use Rattle.page_memory.specs.Pages.{Page}
use Rattle.page_memory.specs.Entries.{place_of, value_at}
use Rattle.page_memory.specs.RecentPages.{Each}

-- whether the page at a place may be used so
abbrev pub may_at : Access → ℕ → List (ℕ × Page) → Option Bool
may_at access place pages = option_map (λ page. may access page.rights) (value_at place pages)

-- a page stands at a place and may be used so
pub record StandsAt (access : Access) (pages : List (ℕ × Page)) (number place : ℕ) : Type 0 where
  pub within : place < length pages
  pub there : place_of number pages ≡ Some place
  pub allowed : may_at access place pages ≡ Some true

-- a page starts there, and stands at the place; or no address is in it
pub record Leads (access : Access) (pages : List (ℕ × Page)) (start place : ℕ) : Type 0 where
  pub multiple : start % 4096 ≡ 0
  pub limit : start ≤ 4294967296
  pub stands : (number : ℕ) → start < 4294967296 → number * 4096 ≡ start → StandsAt access pages number place

-- a page whose bytes begin there
pub record LeadsTo (access : Access) (pages : List (ℕ × Page)) (recent : RecentPage) : Type 0 where
  pub whole : recent.place % 4096 ≡ 0
  pub leads : Leads access pages recent.start (recent.place / 4096)

-- what is remembered holds of these pages
abbrev pub Remembers : List (ℕ × Page) → RecentPages → Type 0
Remembers pages recent = Each (λ access number. LeadsTo access pages) recent
