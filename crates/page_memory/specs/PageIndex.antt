-- How a page index finds a page number's place: a directory of leaves, as a two-level page table has.
use Rattle.std.specs.Prelude.{◌≡◌, ℕ, ◌+◌, ◌-◌, ◌/◌, ◌%◌, ◌^◌, ◌<◌, ◌≤◌, List, length, slice_index, slice_index_or, Option, Some, None, ◌==◌, if◌then◌else◌}
use Rattle.std.specs.Global.{Box}

-- what a leaf keeps for its n-th page: the page's place and 1, or 0
abbrev pub leaf_number : Option (Box (List ℕ)) → ℕ → ℕ
leaf_number None n = 0
leaf_number (Some leaf) n = slice_index leaf.value n

-- what the directory keeps for a page number
abbrev pub kept_number : List (Option (Box (List ℕ))) → ℕ → ℕ
kept_number directory page = leaf_number (slice_index_or directory (page / 1024) None) (page % 1024)

-- the directory keeps the places of just these page numbers
pub record Indexes (directory : List (Option (Box (List ℕ)))) (pages : List ℕ) : Type 0 where
  pub wide : length directory ≡ 1024
  pub small : (k : ℕ) → k < length pages → slice_index pages k < 2 ^ 20
  pub listed : (k : ℕ) → k < length pages → kept_number directory (slice_index pages k) ≡ k + 1
  pub within : (page : ℕ) → kept_number directory page ≤ length pages
  pub found : (page : ℕ) → 0 < kept_number directory page → slice_index pages (kept_number directory page - 1) ≡ page

-- the directory keeps a number for one page, and what it kept for every other
pub record Keeps (old new : List (Option (Box (List ℕ)))) (page number : ℕ) : Type 0 where
  pub wide : length new ≡ length old
  pub numbers : (other : ℕ) → kept_number new other ≡ (if other == page then number else kept_number old other)

-- the directory keeps 0 for each page number from one on and before another
abbrev pub KeepsNone : List (Option (Box (List ℕ))) → ℕ → ℕ → Type 0
KeepsNone directory from end = (q : ℕ) → from ≤ q → q < end → kept_number directory q ≡ 0
