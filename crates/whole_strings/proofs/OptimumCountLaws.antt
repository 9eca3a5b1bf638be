-- Which of several numbers of frames one pass is worth for: proofs.
use Rattle.std.specs.Prelude.{◌≡◌, ℕ, ◌+◌, ◌≤◌, List, drop}
use Rattle.page_policies.specs.declared.frames.Frames.{Frames}
use Rattle.whole_strings.specs.OptimumCounts.{count_up_to}

-- so far: so many of the first numbers
pub record UpTo (most count i : ℕ) (fs : List Frames) : Type 0 where
  pub few : count ≤ i
  pub whole : count_up_to most fs ≡ count + count_up_to most (drop i fs)
