-- How deep a page is in LRU's stack, by the places of last uses in the string: B. T. Bennett and V. J. Kruskal, "LRU Stack
-- Processing", IBM Journal of Research and Development 1975. A place counts 1 while it is the last use of its page, and as many pages were
-- used since as places after it count. Counts are added up by blocks of 256, and those sums by blocks again, so few are added each time.
use Rattle.std.specs.Prelude.{◌≡◌, ℕ, ◌+◌, ◌-◌, ◌*◌, ◌≤◌, List, [], ◌∷◌, drop, length, slice_index_or, slice_set, suc, nat_lt, ◌<◌, Option, Some, None, ⊤}
use Rattle.page_policies.specs.Demand.{one}
use Rattle.whole_strings.specs.declared.last_places.LastPlaces.{LastPlaces}

abbrev pub total : List ℕ → ℕ
total [] = 0
total (n ∷ ns) = n + total ns

-- what the counts from a place on come to
abbrev pub sum_from : ℕ → List ℕ → ℕ
sum_from k counts = total (drop k counts)

-- each of the sums is that of a block of 256 counts
pub record AreBlockSums (counts sums : List ℕ) : Type 0 where
  pub each : (k : ℕ) → sum_from k sums ≡ sum_from (k * 256) counts
  pub whole : length counts ≤ length sums * 256

-- one less in this place
abbrev pub lowered : ℕ → List ℕ → List ℕ
lowered at counts = slice_set counts at (slice_index_or counts at 0 - 1)

-- the counts of the places of last uses are added up
pub record AreSummed (c : LastPlaces) : Type 0 where
  pub blocks : AreBlockSums c.places.items c.blocks.items
  pub groups : AreBlockSums c.blocks.items c.groups.items

-- one place more counts
pub record Adds (at : ℕ) (old new : LastPlaces) : Type 0 where
  pub sums : AreSummed new
  pub size : length new.places.items ≡ length old.places.items
  pub counted : (k : ℕ) → sum_from k new.places.items ≡ sum_from k old.places.items + one (nat_lt k (suc at))

-- one place less counts
pub record Removes (at : ℕ) (old new : LastPlaces) : Type 0 where
  pub sums : AreSummed new
  pub size : length new.places.items ≡ length old.places.items
  pub counted : (k : ℕ) → sum_from k old.places.items ≡ sum_from k new.places.items + one (nat_lt k (suc at))

-- the depth at which a page is found that has this place, and the counts without it
abbrev pub Left : Option ℕ → ℕ → LastPlaces → LastPlaces → ℕ → Type 0
Left None pages old new depth = (depth ≡ pages) × (new ≡ old)
Left (Some t) pages old new depth = (depth ≡ sum_from (t + 1) old.places.items) × Removes t old new

-- what a page's place has to be
abbrev pub MayLeave : Option ℕ → LastPlaces → Type 0
MayLeave None places = ⊤
MayLeave (Some t) places = (t < length places.places.items) × (0 < slice_index_or places.places.items t 0)
