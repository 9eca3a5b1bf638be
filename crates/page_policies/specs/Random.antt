-- Random replacement, by a generator whose seed is given, so that each run is the same: Pcg32 of Melissa E. O'Neill, "PCG: A Family of
-- Simple Fast Space-Efficient Statistically Good Algorithms for Random Number Generation", 2014, with the stream 54 of her examples, and
-- their seed 42 where no other is asked for. A word of 32 bits modulo the number of pages names the one that leaves.
use Rattle.std.specs.Prelude.{ℕ, ◌%◌, Bool, cond, nat_lt, List, [], ◌∷◌, ◌++◌, length, slice_get, swap_remove, Option, Some, None}
use Rattle.rand_pcg.specs.Lcg.{Lcg, started, increment_of}
use Rattle.rand_pcg.specs.Pcg.{multiplier_64, pcg32}
use Rattle.clock_policy.specs.declared.key.Key.{Key}
use Rattle.page_policies.specs.Strings.{holds, misses}
use Rattle.page_policies.specs.declared.random_state.RandomPolicy.{RandomPolicy}

-- the pages in frames, and the generator
pub record RandomState : Type 0 where
  pub pages : List Key
  pub generator : Lcg

-- the page in this place leaves, and the last one takes its place
abbrev pub left_at : Option Key → ℕ → List Key → List Key
left_at None place pages = pages
left_at (Some q) place pages = swap_remove pages place q

abbrev pub place_of : ℕ → ℕ → ℕ
place_of word count = word % count

-- a page that is drawn leaves
abbrev pub drawn : RandomState → RandomState
drawn s = record {
  pages = left_at (slice_get s.pages (place_of (pcg32 s.generator).0 (length s.pages))) (place_of (pcg32 s.generator).0 (length s.pages)) s.pages;
  generator = (pcg32 s.generator).1;
}

-- room for one page
abbrev pub room_drawn : ℕ → RandomState → RandomState
room_drawn m s = cond (nat_lt (length s.pages) m) s (drawn s)

abbrev pub joined : Key → RandomState → RandomState
joined p s = record { pages = s.pages ++ p ∷ []; generator = s.generator }

abbrev pub in_random : Key → RandomState → Bool
in_random p s = holds p s.pages

abbrev pub random : ℕ → Key → RandomState → RandomState
random m p s = cond (in_random p s) s (joined p (room_drawn m s))

abbrev pub seeded : ℕ → Lcg
seeded seed = started 64 multiplier_64 seed (increment_of 64 54)

abbrev pub usual_seed : ℕ
usual_seed = 42

unfoldable pub random_misses : ℕ → ℕ → List Key → ℕ
random_misses seed m string = misses in_random (random m) (record { pages = []; generator = seeded seed }) string

-- as its counter is seen
abbrev pub pages_of : RandomPolicy → RandomState
pages_of s = record { pages = s.pages.keys; generator = s.generator }
