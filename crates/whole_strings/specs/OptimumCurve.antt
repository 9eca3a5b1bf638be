-- What the optimum misses with every number of frames.
use Rattle.std.specs.Prelude.{◌≡◌, ℕ, ◌+◌, ◌<◌, List, length, slice_index_or, ◌-◌}
use Rattle.clock_policy.specs.declared.key.Key.{Key}
use Rattle.page_policies.specs.Optimal.{optimal_misses}
use Rattle.whole_strings.specs.LruDepths.{hits_within}

-- what it misses of a string with 1, 2, 3 and more frames, up to so many
pub record IsOptimumCurve (most : ℕ) (curve : List ℕ) (string : List Key) : Type 0 where
  pub whole : length curve ≡ most
  pub each : (m : ℕ) → m < most → slice_index_or curve m 0 ≡ optimal_misses (m + 1) string

-- the misses with 1, 2 and more frames, up to so many, from those with none and the hits at each depth
pub record FallsTo (most references : ℕ) (counts curve : List ℕ) : Type 0 where
  pub whole : length curve ≡ most
  pub each : (m : ℕ) → m < most → slice_index_or curve m 0 ≡ references - hits_within (m + 1) counts
