-- How many of a cache's pages have the same low bits: where none has those of a page, the page has no entry.
use Rattle.std.specs.Prelude.{◌≡◌, ℕ, suc, ◌%◌, ◌<◌, ◌==◌, if◌then◌else◌, List, [], ◌∷◌, map, length, slice_index_or}
use Rattle.tlb_core.specs.declared.translation.Translation.{Translation}

-- the pages of entries
abbrev pub pages_of : List Translation → List ℕ
pages_of cache = map (λ e. e.page) cache

-- how many pages have these low eight bits
unfoldable pub crowd : ℕ → List ℕ → ℕ
crowd bits [] = 0
crowd bits (page ∷ pages) = if page % 256 == bits then suc (crowd bits pages) else crowd bits pages

-- counts give this number for each value of the low eight bits
pub record Counts (counts pages : List ℕ) : Type 0 where
  pub long : length counts ≡ 256
  pub each : (bits : ℕ) → bits < 256 → slice_index_or counts bits 0 ≡ crowd bits pages
