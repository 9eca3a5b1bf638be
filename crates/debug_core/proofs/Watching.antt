-- Watches one by one.
use Rattle.std.proofs.Common.{◌≡◌, ℕ, zero, suc, ◌+◌, ◌<◌, ◌≤◌, ◌||◌, Bool, true, false, List, [], ◌∷◌, length, drop, slice_index_or, Option, Some, None, refl, sym, ap, ◌∙◌, arith, cond, subst, slice_set, inl, inr}
use Rattle.std.proofs.Math.Seq.{drop-nil}
use Rattle.std.specs.List.{position_from}
use Rattle.std.proofs.lemmas.Bool.Decides.{eqb_tells}
use Rattle.std.proofs.lemmas.List.{get_or-set_same, get_or-set_other}
use Rattle.page_memory.specs.Memory.{Memory}
use Rattle.flat_machine.specs.Process.{Process}
use Rattle.debug_core.specs.Points.{any_changed, has_changed, is_hit}
use Rattle.debug_core.specs.Seen.{AreSeen, IsSeen}
use Rattle.debug_core.specs.declared.point.Point.{Point}

-- the next byte, and those behind it
pub changed_here : (i : ℕ) (before now : List (Option ℕ)) → length before ≡ length now → i < length before
    → any_changed (drop i before) (drop i now) ≡ (has_changed (slice_index_or before i None) (slice_index_or now i None) || any_changed (drop (suc i) before) (drop (suc i) now))
unfolding any_changed
changed_here i [] now same h = absurd (omega arith)
changed_here i (was ∷ before) [] same h = absurd (omega (arith, same))
changed_here zero (was ∷ before) (is ∷ now) same h = refl
changed_here (suc i) (was ∷ before) (is ∷ now) same h = changed_here i before now (omega (arith, same)) (omega arith)

-- behind the last there is none
pub changed_none : (i : ℕ) (before now : List (Option ℕ)) → length before ≤ i → any_changed (drop i before) now ≡ false
unfolding any_changed
changed_none i [] now h = ap (λ l. any_changed l now) (drop-nil i)
changed_none zero (was ∷ before) now h = absurd (omega arith)
changed_none (suc i) (was ∷ before) now h = changed_none i before now (omega arith)

-- a byte that has changed settles it
pub changed_stops : (i : ℕ) (before now : List (Option ℕ)) → length before ≡ length now → i < length before → any_changed before now ≡ any_changed (drop i before) (drop i now)
    → has_changed (slice_index_or before i None) (slice_index_or now i None) ≡ true → true ≡ any_changed before now
changed_stops i before now same h rest hit =
    sym (rest ∙ changed_here i before now same h ∙ ap (λ b. b || any_changed (drop (suc i) before) (drop (suc i) now)) hit)

-- one that has not leaves the others
pub changed_goes_on : (i : ℕ) (before now : List (Option ℕ)) → length before ≡ length now → i < length before → any_changed before now ≡ any_changed (drop i before) (drop i now)
    → has_changed (slice_index_or before i None) (slice_index_or now i None) ≡ false → any_changed before now ≡ any_changed (drop (i + 1) before) (drop (i + 1) now)
changed_goes_on i before now same h rest none =
    let more : suc i ≡ i + 1 = omega arith in
    rest ∙ changed_here i before now same h ∙ ap (λ b. b || any_changed (drop (suc i) before) (drop (suc i) now)) none ∙ ap (λ k. any_changed (drop k before) (drop k now)) more

-- and behind the last none is left
pub changed_ends : (i : ℕ) (before now : List (Option ℕ)) → length before ≤ i → any_changed before now ≡ any_changed (drop i before) (drop i now) → false ≡ any_changed before now
changed_ends i before now all rest = sym (rest ∙ changed_none i before (drop i now) all)

-- ---- the first point of which a test holds

position_here : {A : Type 0} (test : A → Bool) (k i : ℕ) (points : List A) (d : A) → i < length points
    → position_from test k (drop i points) ≡ cond (test (slice_index_or points i d)) (Some k) (position_from test (k + 1) (drop (suc i) points))
position_here test k i [] d h = absurd (omega arith)
position_here test k zero (point ∷ points) d h = refl
position_here test k (suc i) (point ∷ points) d h = position_here test k i points d (omega arith)

position_none : {A : Type 0} (test : A → Bool) (k i : ℕ) (points : List A) → length points ≤ i → position_from test k (drop i points) ≡ None
position_none test k i [] h = ap (position_from test k) (drop-nil i)
position_none test k zero (point ∷ points) h = absurd (omega arith)
position_none test k (suc i) (point ∷ points) h = position_none test k i points (omega arith)

pub position_stops : {A : Type 0} (test : A → Bool) (i : ℕ) (points : List A) (d : A) → i < length points
    → position_from test 0 points ≡ position_from test i (drop i points) → test (slice_index_or points i d) ≡ true → Some i ≡ position_from test 0 points
position_stops test i points d h rest hit =
    sym (rest ∙ position_here test i i points d h ∙ ap (λ b. cond b (Some i) (position_from test (i + 1) (drop (suc i) points))) hit)

pub position_goes_on : {A : Type 0} (test : A → Bool) (i : ℕ) (points : List A) (d : A) → i < length points
    → position_from test 0 points ≡ position_from test i (drop i points) → test (slice_index_or points i d) ≡ false → position_from test 0 points ≡ position_from test (i + 1) (drop (i + 1) points)
position_goes_on test i points d h rest none =
    let more : suc i ≡ i + 1 = omega arith in
    rest ∙ position_here test i i points d h ∙ ap (λ b. cond b (Some i) (position_from test (i + 1) (drop (suc i) points))) none ∙ ap (λ j. position_from test (i + 1) (drop j points)) more

pub position_ends : {A : Type 0} (test : A → Bool) (i : ℕ) (points : List A) → length points ≤ i
    → position_from test 0 points ≡ position_from test i (drop i points) → None ≡ position_from test 0 points
position_ends test i points all rest = sym (rest ∙ position_none test i i points all)

-- ---- a watch as it was seen

-- whether the next point is hit, as its window tells
pub hit_here : (i : ℕ) (points : List (Option Point)) (first windows : List (List (Option ℕ))) (was : Memory) (shown start : Process) (hit : Bool) → i < length points → AreSeen points first was
    → ((number : ℕ) → i ≤ number → slice_index_or windows number [] ≡ slice_index_or first number []) → shown ≡ start
    → ((was : Memory) → IsSeen (slice_index_or points i None) (slice_index_or windows i []) was → hit ≡ is_hit was shown.memory (slice_index_or points i None))
    → is_hit was start.memory (slice_index_or points i None) ≡ hit
hit_here i points first windows was shown start hit h seen above same told =
    let window = subst (λ w. IsSeen (slice_index_or points i None) w was) (sym (above i (omega arith))) (seen i h) in
    sym (told was window ∙ ap (λ (s : Process). is_hit was s.memory (slice_index_or points i None)) same)

-- one more is seen as it is now
pub seen_more : (i : ℕ) (points : List (Option Point)) (windows : List (List (Option ℕ))) (window : List (Option ℕ)) (now : Memory) → i < length windows
    → ((number : ℕ) → number < i → IsSeen (slice_index_or points number None) (slice_index_or windows number []) now) → IsSeen (slice_index_or points i None) window now
    → (number : ℕ) → number < i + 1 → IsSeen (slice_index_or points number None) (slice_index_or (slice_set windows i window) number []) now
seen_more i points windows window now h below here number within =
    elim (eqb_tells number i) [
      | inl same ↦
          subst (λ k. IsSeen (slice_index_or points k None) (slice_index_or (slice_set windows i window) k []) now) (sym same.1)
          (subst (λ w. IsSeen (slice_index_or points i None) w now) (sym (get_or-set_same windows i window [] h)) here)
      | inr other ↦
          subst (λ w. IsSeen (slice_index_or points number None) w now) (sym (get_or-set_other windows i number window [] other.1)) (below number (let differs = other.1 in omega arith))
    ]
