-- Numbers of frames that follow from a string's pages, or do not.
use Rattle.std.specs.Prelude.{◌≡◌, ℕ, zero, suc, ◌+◌, ◌<◌, ◌||◌, Bool, true, false, List, [], ◌∷◌, drop, length, map, slice_index_or, refl}
use Rattle.std.proofs.Common.{arith, ap, ◌∙◌}
use Rattle.miss_counts.specs.FrameNumbers.{frames_for, is_part, has_part}
use Rattle.miss_counts.specs.declared.table_size.TableSize.{TableSize}
use Rattle.miss_counts.specs.declared.table_size.TableSize.TheVariants.{Frames, Part}

next : (n : ℕ) → suc n ≡ n + 1
next n = omega arith

pub parts_on : (i : ℕ) (ss : List TableSize) (d : TableSize) → i < length ss → is_part (slice_index_or ss i d) ≡ false → has_part ss ≡ has_part (drop i ss) → has_part ss ≡ has_part (drop (i + 1) ss)
parts_on i ss d h is before = before ∙ further i ss h is ∙ ap (λ (k : ℕ). has_part (drop k ss)) (next i)
  where
    further : (i : ℕ) (ss : List TableSize) → i < length ss → is_part (slice_index_or ss i d) ≡ false → has_part (drop i ss) ≡ has_part (drop (suc i) ss)
    further i [] h is = absurd (omega (arith, h))
    further zero (s ∷ ss) h is = ap (λ (b : Bool). b || has_part ss) is
    further (suc i) (s ∷ ss) h is = further i ss (omega (arith, h)) is

pub part_found : (i : ℕ) (ss : List TableSize) (d : TableSize) → i < length ss → is_part (slice_index_or ss i d) ≡ true → has_part ss ≡ has_part (drop i ss) → has_part ss ≡ true
part_found i ss d h is before = before ∙ here i ss h is
  where
    here : (i : ℕ) (ss : List TableSize) → i < length ss → is_part (slice_index_or ss i d) ≡ true → has_part (drop i ss) ≡ true
    here i [] h is = absurd (omega (arith, h))
    here zero (s ∷ ss) h is = ap (λ (b : Bool). b || has_part ss) is
    here (suc i) (s ∷ ss) h is = here i ss (omega (arith, h)) is

-- where none does, the pages do not matter
pub without_parts : (a b : ℕ) (ss : List TableSize) → has_part ss ≡ false → map (frames_for a) ss ≡ map (frames_for b) ss
without_parts a b [] none = refl
without_parts a b (Frames f ∷ ss) none = ap (λ (l : List ℕ). f.number ∷ l) (without_parts a b ss none)
without_parts a b (Part p ∷ ss) none = cc
