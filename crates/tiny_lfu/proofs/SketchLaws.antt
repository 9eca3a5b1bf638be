-- One of the sketch's counts is written: proofs.
use Rattle.std.specs.Prelude.{◌≡◌, ℕ, zero, suc, ◌+◌, ◌==◌, true, false, cond, List, [], ◌∷◌, slice_index_or, slice_set, refl}
use Rattle.std.proofs.Common.{ap}
use Rattle.tiny_lfu.specs.Sketch.{raised}

same_again : (at : ℕ) (counts : List ℕ) → slice_set counts at (slice_index_or counts at 0) ≡ counts
same_again at [] = refl
same_again zero (n ∷ ns) = refl
same_again (suc at) (n ∷ ns) = ap (λ (l : List ℕ). n ∷ l) (same_again at ns)

-- a count that is not the least one is written as it was
pub raised_as : (least at : ℕ) (counts : List ℕ) → slice_set counts at (cond (slice_index_or counts at 0 == least) (least + 1) (slice_index_or counts at 0)) ≡ raised least at counts
raised_as least at counts = elim (slice_index_or counts at 0 == least) as (λ b. slice_set counts at (cond b (least + 1) (slice_index_or counts at 0)) ≡ cond b (slice_set counts at (least + 1)) counts) [
  | true ↦ refl
  | false ↦ same_again at counts
]
