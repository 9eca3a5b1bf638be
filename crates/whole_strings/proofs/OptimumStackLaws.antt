-- The optimum with every number of frames at once, along a string: proofs.
use Rattle.std.specs.Prelude.{◌≡◌, ℕ, zero, suc, ◌+◌, ◌-◌, ◌<◌, ◌≤◌, Bool, true, false, cond, nat_lt, List, [], ◌∷◌, ◌++◌, take, length, slice_index_or, refl}
use Rattle.std.proofs.Common.{arith, sym, ap, subst, ◌∙◌}
use Rattle.clock_policy.specs.declared.key.Key.{Key}
use Rattle.page_policies.specs.Optimal.{optimal_misses}
use Rattle.page_policies.specs.NextUses.{next_uses}
use Rattle.page_policies.specs.Demand.{one}
use Rattle.page_policies.proofs.NumberLaws.{less, most, yes_less, no_less}
use Rattle.whole_strings.specs.NextPlaces.{place}
use Rattle.whole_strings.proofs.PlaceStepLaws.{Served, served_first, served_on, served_last}
use Rattle.whole_strings.specs.LruDepths.{hits_within, noted, referred}
use Rattle.whole_strings.proofs.LruDepthLaws.{noted_within, new_within, Few, few_noted, few_new, length_noted, length_new}
use Rattle.whole_strings.specs.OptimumStack.{place_depth, restacked}
use Rattle.whole_strings.proofs.CarriedLaws.{length_restacked}
use Rattle.whole_strings.proofs.OptimumStepLaws.{step_hit, step_miss}

-- Before the reference at `at`: with each number of frames the first places of the stack are those of the optimum's pages, and so many
-- hit as the first counts make together.
pub record OptimumCounting (at : ℕ) (counts stack : List ℕ) (string : List Key) : Type 0 where
  pub each : (j count : ℕ) → count + hits_within (suc j) counts ≡ at → Served (suc j) at count (take (suc j) stack) string
  pub within : (m : ℕ) → hits_within m counts ≤ at
  pub few : Few at counts
  pub size : length counts ≡ length stack

pub optimum_counting_open : (counts stack : List ℕ) (string : List Key) → counts ≡ [] → stack ≡ [] → OptimumCounting 0 counts stack string
optimum_counting_open counts stack string c s = rw (c, s) (record {
  each = λ j count is. first j count is;
  within = λ m. none m;
  few = tt;
  size = refl;
})
  where
    none : (m : ℕ) → hits_within m [] ≤ 0
    none zero = omega arith
    none (suc m) = omega arith

    first : (j count : ℕ) → count + 0 ≡ 0 → Served (suc j) 0 count [] string
    first j count is = let e : count ≡ 0 = omega (arith, is) in rw e (served_first (suc j) [] string refl)

counting_found : (at next d : ℕ) (counts stack : List ℕ) (string : List Key) → at < length string → next ≡ place (length string) at (slice_index_or (next_uses string) at d) → place_depth at stack < length stack
    → OptimumCounting at counts stack string → OptimumCounting (at + 1) (noted (place_depth at stack) counts) (restacked at next stack) string
counting_found at next d counts stack string inside to found before =
    let size : length counts ≡ length stack = before.size in
    let deep : place_depth at stack < length counts = omega (arith, size, found) in
    record {
      each = λ j count is.
          let more : hits_within (suc j) (noted (place_depth at stack) counts) ≡ hits_within (suc j) counts + one (nat_lt (place_depth at stack) (suc j)) = noted_within (suc j) (place_depth at stack) counts deep in
          by_depth j count (nat_lt (place_depth at stack) (suc j)) refl more is;
      within = λ m.
          let more : hits_within m (noted (place_depth at stack) counts) ≡ hits_within m counts + one (nat_lt (place_depth at stack) m) = noted_within m (place_depth at stack) counts deep in
          let old : hits_within m counts ≤ at = before.within m in
          let single : one (nat_lt (place_depth at stack) m) ≤ 1 = at_most_one (nat_lt (place_depth at stack) m) in omega (arith, more, old, single);
      few = few_noted at (place_depth at stack) counts before.few;
      size = length_noted (place_depth at stack) counts ∙ size ∙ sym (length_restacked at next stack ∙ ap (λ (b : Bool). let k : ℕ = cond b (length stack) (suc (length stack)) in k) (yes_less (place_depth at stack) (length stack) found));
    }
  where
    at_most_one : (b : Bool) → one b ≤ 1
    at_most_one true = omega arith
    at_most_one false = omega arith

    cut_few : (m : ℕ) (s : List ℕ) → length (take m s) ≤ m
    cut_few zero s = omega arith
    cut_few (suc m) [] = omega arith
    cut_few (suc m) (y ∷ ys) = let e : length (take m ys) ≤ m = cut_few m ys in omega (arith, e)

    by_depth : (j count : ℕ) (b : Bool) → nat_lt (place_depth at stack) (suc j) ≡ b → hits_within (suc j) (noted (place_depth at stack) counts) ≡ hits_within (suc j) counts + one (nat_lt (place_depth at stack) (suc j))
        → count + hits_within (suc j) (noted (place_depth at stack) counts) ≡ at + 1 → Served (suc j) (at + 1) count (take (suc j) (restacked at next stack)) string
    by_depth j count true h more is =
        let single : one (nat_lt (place_depth at stack) (suc j)) ≡ 1 = ap one h in
        served_on (suc j) at count count next d (take (suc j) stack) (take (suc j) (restacked at next stack)) string true inside to
        (λ p ps s n_is to_is stands. step_hit j at (length string) next p ps stack s n_is to_is (less (place_depth at stack) (suc j) h) found stands)
        (omega arith) (before.each j count (omega (arith, more, single, is)))
    by_depth zero zero false h more is =
        let none : one (nat_lt (place_depth at stack) 1) ≡ 0 = ap one h in
        let old : hits_within 1 counts ≤ at = before.within 1 in absurd (omega (arith, more, none, is, old))
    by_depth (suc j) zero false h more is =
        let none : one (nat_lt (place_depth at stack) (suc (suc j))) ≡ 0 = ap one h in
        let old : hits_within (suc (suc j)) counts ≤ at = before.within (suc (suc j)) in absurd (omega (arith, more, none, is, old))
    by_depth j (suc count) false h more is =
        let none : one (nat_lt (place_depth at stack) (suc j)) ≡ 0 = ap one h in
        let deeper : suc j ≤ place_depth at stack = most (place_depth at stack) (suc j) h in
        let cut : length (take (suc j) stack) ≤ suc j = cut_few (suc j) stack in
        served_on (suc j) at count (suc count) next d (take (suc j) stack) (take (suc j) (restacked at next stack)) string false inside to
        (λ p ps s n_is to_is stands. step_miss j at (length string) next p ps stack s n_is to_is (omega (arith, deeper, cut)) stands)
        (omega arith) (before.each j count (omega (arith, more, none, is)))

counting_new : (at next d : ℕ) (counts stack : List ℕ) (string : List Key) → at < length string → next ≡ place (length string) at (slice_index_or (next_uses string) at d) → length stack ≤ place_depth at stack
    → OptimumCounting at counts stack string → OptimumCounting (at + 1) (counts ++ 0 ∷ []) (restacked at next stack) string
counting_new at next d counts stack string inside to new before = record {
  each = λ j count is. missed j count (new_within (suc j) counts) is;
  within = λ m. let same : hits_within m (counts ++ 0 ∷ []) ≡ hits_within m counts = new_within m counts in let old : hits_within m counts ≤ at = before.within m in omega (arith, same, old);
  few = few_new at counts before.few;
  size = length_new counts 0 ∙ ap suc before.size ∙ sym (length_restacked at next stack ∙ ap (λ (b : Bool). let k : ℕ = cond b (length stack) (suc (length stack)) in k) (no_less (place_depth at stack) (length stack) new));
}
  where
    cut_short : (m : ℕ) (s : List ℕ) → length (take m s) ≤ length s
    cut_short zero s = omega arith
    cut_short (suc m) [] = omega arith
    cut_short (suc m) (y ∷ ys) = let e : length (take m ys) ≤ length ys = cut_short m ys in omega (arith, e)

    missed : (j count : ℕ) → hits_within (suc j) (counts ++ 0 ∷ []) ≡ hits_within (suc j) counts → count + hits_within (suc j) (counts ++ 0 ∷ []) ≡ at + 1 → Served (suc j) (at + 1) count (take (suc j) (restacked at next stack)) string
    missed j zero same is = let old : hits_within (suc j) counts ≤ at = before.within (suc j) in absurd (omega (arith, same, is, old))
    missed j (suc count) same is =
        let cut : length (take (suc j) stack) ≤ length stack = cut_short (suc j) stack in
        served_on (suc j) at count (suc count) next d (take (suc j) stack) (take (suc j) (restacked at next stack)) string false inside to
        (λ p ps s n_is to_is stands. step_miss j at (length string) next p ps stack s n_is to_is (omega (arith, cut, new)) stands)
        (omega arith) (before.each j count (omega (arith, same, is)))

-- one reference more, wherever its page is
pub optimum_counting_on : (at next d depth : ℕ) (counts more stack after uses : List ℕ) (string : List Key) → uses ≡ next_uses string → at < length uses → next ≡ place (length uses) at (slice_index_or uses at d)
    → depth ≡ place_depth at stack → more ≡ referred depth counts → after ≡ restacked at next stack → OptimumCounting at counts stack string → OptimumCounting (at + 1) more after string
optimum_counting_on at next d depth counts more stack after uses string is inside to deep noted_is after_is before =
    let long : length uses ≡ length string = ap length is ∙ length_all string in
    let place_is : next ≡ place (length string) at (slice_index_or (next_uses string) at d) = to ∙ ap (λ (k : ℕ). place k at (slice_index_or uses at d)) long ∙ ap (λ (l : List ℕ). place (length string) at (slice_index_or l at d)) is in
    let within : at < length string = omega (arith, inside, long) in
    subst (λ (l : List ℕ). OptimumCounting (at + 1) l after string) (sym (noted_is ∙ ap (λ (k : ℕ). referred k counts) deep))
    (subst (λ (l : List ℕ). OptimumCounting (at + 1) (referred (place_depth at stack) counts) l string) (sym after_is)
    (wherever (nat_lt (place_depth at stack) (length counts)) refl within place_is))
  where
    length_all : (s : List Key) → length (next_uses s) ≡ length s
    length_all [] = refl
    length_all (p ∷ ps) = ap suc (length_all ps)

    wherever : (b : Bool) → nat_lt (place_depth at stack) (length counts) ≡ b → at < length string → next ≡ place (length string) at (slice_index_or (next_uses string) at d)
        → OptimumCounting (at + 1) (cond b (noted (place_depth at stack) counts) (counts ++ 0 ∷ [])) (restacked at next stack) string
    wherever true h within place_is = let size : length counts ≡ length stack = before.size in let e : place_depth at stack < length counts = less (place_depth at stack) (length counts) h in
        counting_found at next d counts stack string within place_is (omega (arith, e, size)) before
    wherever false h within place_is = let size : length counts ≡ length stack = before.size in let e : length counts ≤ place_depth at stack = most (place_depth at stack) (length counts) h in
        counting_new at next d counts stack string within place_is (omega (arith, e, size)) before

-- at the end
pub optimum_counting_end : (at : ℕ) (counts stack uses : List ℕ) (string : List Key) → uses ≡ next_uses string → length uses ≤ at → at ≤ length uses → OptimumCounting at counts stack string → (m : ℕ) → optimal_misses (m + 1) string + hits_within (m + 1) counts ≡ length string
optimum_counting_end at counts stack uses string is past inside before m =
    let long : length uses ≡ length string = ap length is ∙ length_all string in
    let few : hits_within (suc m) counts ≤ at = before.within (suc m) in
    let all : at - hits_within (suc m) counts ≡ optimal_misses (suc m) string = served_last (suc m) at (at - hits_within (suc m) counts) (take (suc m) stack) string (omega (arith, past, long))
    (before.each m (at - hits_within (suc m) counts) (omega (arith, few))) in
    ended (suc m) (m + 1) (omega arith) (omega (arith, all, few, past, inside, long))
  where
    length_all : (s : List Key) → length (next_uses s) ≡ length s
    length_all [] = refl
    length_all (p ∷ ps) = ap suc (length_all ps)

    ended : (k l : ℕ) → l ≡ k → optimal_misses k string + hits_within k counts ≡ length string → optimal_misses l string + hits_within l counts ≡ length string
    ended k l e h = rw e h
