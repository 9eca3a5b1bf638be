-- The sketch of TinyLFU (Gil Einziger, Roy Friedman and Ben Manes, "TinyLFU: A Highly Efficient Cache Admission Policy", ACM
-- Transactions on Storage 2017): how often pages were used, in little memory. It has four rows of counts, and a page has one in each row,
-- at a place that its number gives; pages may share counts. Sentences of the publication are
-- beside the equations as they were remembered. Its doorkeeper, which holds pages that were used once, is left out, as its authors allow.
use Rattle.std.specs.Prelude.{ℕ, ◌+◌, ◌*◌, ◌/◌, ◌%◌, ◌==◌, cond, nat_lt, min, List, map, slice_index_or, slice_set}
use Rattle.clock_policy.specs.declared.key.Key.{Key}
use Rattle.page_policies.specs.Spread.{spread}
use Rattle.tiny_lfu.specs.declared.places.Places.{Places}

-- The rows' multipliers. The publication asks for hash functions, and names none.
abbrev pub first : ℕ
first = 11400714819323198485

abbrev pub second : ℕ
second = 13787848793156543929

abbrev pub third : ℕ
third = 10723151780598845931

abbrev pub fourth : ℕ
fourth = 14029467366897019727

unfoldable pub place : ℕ → ℕ → ℕ → Key → ℕ
place m row multiplier p = row * m + spread multiplier p % m

-- where a page is counted, in rows of m counts one after another
unfoldable pub places_of : ℕ → Key → Places
places_of m p = record { first = place m 0 first p; second = place m 1 second p; third = place m 2 third p; fourth = place m 3 fourth p }

-- "the estimation is the minimal value of the counters"
abbrev pub least_at : Places → List ℕ → ℕ
least_at at counts = min (min (slice_index_or counts at.first 0) (slice_index_or counts at.second 0)) (min (slice_index_or counts at.third 0) (slice_index_or counts at.fourth 0))

abbrev pub estimate : ℕ → Key → List ℕ → ℕ
estimate m p counts = least_at (places_of m p) counts

-- "minimal increment": where a count is the least one it grows by one
abbrev pub raised : ℕ → ℕ → List ℕ → List ℕ
raised least at counts = cond (slice_index_or counts at 0 == least) (slice_set counts at (least + 1)) counts

abbrev pub all_raised : ℕ → Places → List ℕ → List ℕ
all_raised least at counts = raised least at.fourth (raised least at.third (raised least at.second (raised least at.first counts)))

-- a count has four bits, and stays at 15
abbrev pub most_count : ℕ
most_count = 15

abbrev pub noted : Places → List ℕ → List ℕ
noted at counts = cond (nat_lt (least_at at counts) most_count) (all_raised (least_at at counts) at counts) counts

pub record SketchState : Type 0 where
  pub counts : List ℕ
  pub added : ℕ

-- the most counts that a row may have
abbrev pub most_width : ℕ
most_width = 67108864

-- "reset": "once this counter reaches the sample size we divide it and all other counters by 2"
abbrev pub aged : ℕ → SketchState → SketchState
aged sample s = cond (nat_lt s.added sample) s (record { counts = map (λ n. n / 2) s.counts; added = s.added / 2 })

-- a use of the page
abbrev pub counted : ℕ → ℕ → Key → SketchState → SketchState
counted m sample p s = aged sample (record { counts = noted (places_of m p) s.counts; added = s.added + 1 })
