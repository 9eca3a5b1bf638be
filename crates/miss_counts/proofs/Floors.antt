-- What the optimum misses with several numbers of frames, where it is asked for.
use Rattle.std.specs.Prelude.{◌≡◌, ℕ, zero, suc, ◌<◌, Bool, true, false, List, [], ◌∷◌, Option, Some, None, length, map, slice_index_or, refl}
use Rattle.std.proofs.Common.{arith, ap, ◌∙◌}
use Rattle.clock_policy.specs.declared.key.Key.{Key}
use Rattle.page_policies.specs.Optimal.{optimal_misses}
use Rattle.page_policies.specs.declared.frames.Frames.{Frames}
use Rattle.miss_counts.specs.Counted.{asked}

-- where it is not, there is none for each
pub floors_none : (b : Bool) (string : List Key) (fs : List Frames) (floors : List (Option ℕ)) → b ≡ false → floors ≡ map (λ f. None) fs → floors ≡ map (λ f. asked b (optimal_misses f.number string)) fs
floors_none b string fs floors not none = none ∙ each fs ∙ ap (λ (c : Bool). map (λ (f : Frames). asked c (optimal_misses f.number string)) fs) (back b not)
  where
    each : (fs : List Frames) → map (λ (f : Frames). let n : Option ℕ = None in n) fs ≡ map (λ f. asked false (optimal_misses f.number string)) fs
    each [] = refl
    each (f ∷ fs) = ap (λ (l : List (Option ℕ)). None ∷ l) (each fs)

    back : (b : Bool) → b ≡ false → false ≡ b
    back false h = refl
    back true h = cc

pub floors_all : (b : Bool) (string : List Key) (fs : List Frames) (counts : List ℕ) (floors : List (Option ℕ)) → b ≡ true → counts ≡ map (λ f. optimal_misses f.number string) fs → floors ≡ map (λ n. Some n) counts
    → floors ≡ map (λ f. asked b (optimal_misses f.number string)) fs
floors_all b string fs counts floors wanted is some = some ∙ ap (λ (l : List ℕ). let m : List (Option ℕ) = map (λ n. Some n) l in m) is ∙ each fs ∙ ap (λ (c : Bool). map (λ (f : Frames). asked c (optimal_misses f.number string)) fs) (back b wanted)
  where
    each : (fs : List Frames) → map (λ n. Some n) (map (λ (f : Frames). optimal_misses f.number string) fs) ≡ map (λ f. asked true (optimal_misses f.number string)) fs
    each [] = refl
    each (f ∷ fs) = ap (λ (l : List (Option ℕ)). Some (optimal_misses f.number string) ∷ l) (each fs)

    back : (b : Bool) → b ≡ true → true ≡ b
    back true h = refl
    back false h = cc

pub floors_whole : (b : Bool) (string : List Key) (fs : List Frames) (floors : List (Option ℕ)) → floors ≡ map (λ f. asked b (optimal_misses f.number string)) fs → length floors ≡ length fs
floors_whole b string fs floors is = ap length is ∙ size fs
  where
    size : (fs : List Frames) → length (map (λ (f : Frames). asked b (optimal_misses f.number string)) fs) ≡ length fs
    size [] = refl
    size (f ∷ fs) = ap suc (size fs)

-- the one beside a number
pub floor_here : (b : Bool) (string : List Key) (fs : List Frames) (floors : List (Option ℕ)) (at : ℕ) (d : Frames) (e : Option ℕ) → at < length fs → floors ≡ map (λ f. asked b (optimal_misses f.number string)) fs
    → slice_index_or floors at e ≡ asked b (optimal_misses (slice_index_or fs at d).number string)
floor_here b string fs floors at d e inside is = ap (λ (l : List (Option ℕ)). slice_index_or l at e) is ∙ each at fs inside
  where
    each : (at : ℕ) (fs : List Frames) → at < length fs → slice_index_or (map (λ (f : Frames). asked b (optimal_misses f.number string)) fs) at e ≡ asked b (optimal_misses (slice_index_or fs at d).number string)
    each at [] h = absurd (omega (arith, h))
    each zero (f ∷ fs) h = refl
    each (suc at) (f ∷ fs) h = each at fs (omega (arith, h))
