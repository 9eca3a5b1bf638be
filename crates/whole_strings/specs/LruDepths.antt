-- LRU with every number of frames at once: the stack of Richard L. Mattson, Jan Gecsei, Donald R. Slutz and Irving L. Traiger, "Evaluation
-- Techniques for Storage Hierarchies", IBM Systems Journal 1970. All pages by their last use, the one used last first: m frames have its
-- first m, so that a reference hits with more frames than there are pages before its own.
use Rattle.std.specs.Prelude.{◌≡◌, ℕ, zero, suc, ◌+◌, ◌<◌, ◌≤◌, cond, List, [], ◌∷◌, length, slice_index_or, ◌-◌, nat_lt, ◌++◌}
use Rattle.clock_policy.specs.declared.key.Key.{Key}
use Rattle.page_policies.specs.Queues.{lru_misses}
use Rattle.whole_strings.specs.PageCounts.{page_count}

-- What is counted: how many references had so many pages before theirs, for each number of such pages. The references that hit with m
-- frames are the first m of these numbers together.
abbrev pub hits_within : ℕ → List ℕ → ℕ
hits_within zero counts = 0
hits_within (suc m) [] = 0
hits_within (suc m) (n ∷ ns) = n + hits_within m ns

-- what a string misses with 1, 2, 3 and more frames, up to as many as it has pages: with more it misses no less
pub record IsLruCurve (curve : List ℕ) (string : List Key) : Type 0 where
  pub rows : length curve ≡ page_count string
  pub each : (m : ℕ) → m < length curve → slice_index_or curve m 0 ≡ lru_misses (m + 1) string
  pub rest : (m : ℕ) → length curve ≤ m → lru_misses m string ≡ lru_misses (length curve) string

-- one more in this place
abbrev pub noted : ℕ → List ℕ → List ℕ
noted d [] = []
noted zero (n ∷ ns) = suc n ∷ ns
noted (suc d) (n ∷ ns) = n ∷ noted d ns

-- the misses with 1, 2, 3 and more frames, from those with none
abbrev pub tails : ℕ → List ℕ → List ℕ
tails n [] = []
tails n (k ∷ ks) = (n - k) ∷ tails (n - k) ks

-- one reference, wherever its page is
abbrev pub referred : ℕ → List ℕ → List ℕ
referred d counts = cond (nat_lt d (length counts)) (noted d counts) (counts ++ 0 ∷ [])
