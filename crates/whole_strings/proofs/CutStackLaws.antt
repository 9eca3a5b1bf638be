-- The optimum's stack cut to its first places: proofs.
use Rattle.std.specs.Prelude.{◌≡◌, ℕ, zero, suc, ◌+◌, ◌^◌, ◌<◌, ◌≤◌, ◌==◌, Bool, true, false, cond, nat_lt, List, [], ◌∷◌, ◌++◌, take, length, slice_index_or, refl}
use Rattle.std.proofs.Common.{arith, sym, ap, subst, ◌∙◌}
use Rattle.std.proofs.lemmas.List.{take_all}
use Rattle.clock_policy.specs.declared.key.Key.{Key}
use Rattle.page_policies.specs.Optimal.{optimal_misses}
use Rattle.page_policies.specs.NextUses.{next_uses}
use Rattle.page_policies.proofs.NumberLaws.{less, most, yes_less, no_less}
use Rattle.whole_strings.specs.NextPlaces.{place}
use Rattle.whole_strings.specs.LruDepths.{hits_within, noted, referred}
use Rattle.whole_strings.proofs.LruDepthLaws.{Few, few_at}
use Rattle.whole_strings.specs.OptimumStack.{nearer, farther, place_depth, carried_down, restacked, CountsOptimum}
use Rattle.whole_strings.proofs.OptimumStackLaws.{OptimumCounting, optimum_counting_open, optimum_counting_on, optimum_counting_end}

-- ---- a list that is cut

cut_few : (m : ℕ) (s : List ℕ) → length (take m s) ≤ m
cut_few zero s = omega arith
cut_few (suc m) [] = omega arith
cut_few (suc m) (y ∷ ys) = let e : length (take m ys) ≤ m = cut_few m ys in omega (arith, e)

cut_whole : (d m : ℕ) (s : List ℕ) → d < m → d < length s → d < length (take m s)
cut_whole d zero s h g = absurd (omega (arith, h))
cut_whole d (suc m) [] h g = absurd (omega (arith, g))
cut_whole zero (suc m) (y ∷ ys) h g = omega arith
cut_whole (suc d) (suc m) (y ∷ ys) h g = let e : d < length (take m ys) = cut_whole d m ys (omega (arith, h)) (omega (arith, g)) in omega (arith, e)

cut_twice : (m : ℕ) (s : List ℕ) → take m (take m s) ≡ take m s
cut_twice zero s = refl
cut_twice (suc m) [] = refl
cut_twice (suc m) (y ∷ ys) = ap (λ (l : List ℕ). y ∷ l) (cut_twice m ys)

cut_none : (m : ℕ) → take m (let none : List ℕ = [] in none) ≡ []
cut_none zero = refl
cut_none (suc m) = refl

cut_before : (m : ℕ) (s t : List ℕ) → m ≤ length s → take m (s ++ t) ≡ take m s
cut_before zero s t h = refl
cut_before (suc m) [] t h = absurd (omega (arith, h))
cut_before (suc m) (y ∷ ys) t h = ap (λ (l : List ℕ). y ∷ l) (cut_before m ys t (omega (arith, h)))

length_one_more : (s : List ℕ) (n : ℕ) → length (s ++ n ∷ []) ≡ suc (length s)
length_one_more [] n = refl
length_one_more (y ∷ ys) n = ap suc (length_one_more ys n)

-- ---- the stack

-- the first places depend on no others
carried_cut : (j at c : ℕ) (ys : List ℕ) → take j (carried_down at c (take j ys)) ≡ take j (carried_down at c ys)
carried_cut zero at c ys = refl
carried_cut (suc j) at c [] = refl
carried_cut (suc j) at c (y ∷ ys) = elim (y == at) as (λ b. take (suc j) (cond b (c ∷ take j ys) (nearer c y ∷ carried_down at (farther c y) (take j ys))) ≡ take (suc j) (cond b (c ∷ ys) (nearer c y ∷ carried_down at (farther c y) ys))) [
  | true ↦ ap (λ (l : List ℕ). c ∷ l) (cut_twice j ys)
  | false ↦ ap (λ (l : List ℕ). nearer c y ∷ l) (carried_cut j at (farther c y) ys)
]

restacked_cut : (bound at next : ℕ) (s : List ℕ) → 0 < bound → take bound (restacked at next (take bound s)) ≡ take bound (restacked at next s)
restacked_cut zero at next s h = absurd (omega (arith, h))
restacked_cut (suc m) at next [] h = refl
restacked_cut (suc m) at next (y ∷ ys) h = elim (y == at) as (λ b. next ∷ take m (cond b (take m ys) (carried_down at y (take m ys))) ≡ next ∷ take m (cond b ys (carried_down at y ys))) [
  | true ↦ ap (λ (l : List ℕ). next ∷ l) (cut_twice m ys)
  | false ↦ ap (λ (l : List ℕ). next ∷ l) (carried_cut m at y ys)
]

depth_inside : (m at : ℕ) (s : List ℕ) → place_depth at s < m → place_depth at (take m s) ≡ place_depth at s
depth_inside zero at s h = absurd (omega (arith, h))
depth_inside (suc m) at [] h = refl
depth_inside (suc m) at (y ∷ ys) h = elim (y == at) as (λ b. cond b 0 (suc (place_depth at ys)) < suc m → ◌≡◌ {A = ℕ} (cond b 0 (suc (place_depth at (take m ys)))) (cond b 0 (suc (place_depth at ys)))) [
  | true ↦ λ g. refl
  | false ↦ λ g. ap suc (depth_inside m at ys (omega (arith, g)))
] h

depth_past : (m at : ℕ) (s : List ℕ) → m ≤ place_depth at s → place_depth at (take m s) ≡ m
depth_past zero at s h = refl
depth_past (suc m) at [] h = absurd (omega (arith, h))
depth_past (suc m) at (y ∷ ys) h = elim (y == at) as (λ b. suc m ≤ cond b 0 (suc (place_depth at ys)) → ◌≡◌ {A = ℕ} (cond b 0 (suc (place_depth at (take m ys)))) (suc m)) [
  | true ↦ λ g. absurd (omega (arith, g))
  | false ↦ λ g. ap suc (depth_past m at ys (omega (arith, g)))
] h

depth_few : (at : ℕ) (s : List ℕ) → place_depth at s ≤ length s
depth_few at [] = omega arith
depth_few at (y ∷ ys) = elim (y == at) as (λ b. cond b 0 (suc (place_depth at ys)) ≤ suc (length ys)) [
  | true ↦ omega arith
  | false ↦ let e : place_depth at ys ≤ length ys = depth_few at ys in omega (arith, e)
]

-- ---- the counts

noted_cut : (m d : ℕ) (counts : List ℕ) → d < m → noted d (take m counts) ≡ take m (noted d counts)
noted_cut zero d counts h = absurd (omega (arith, h))
noted_cut (suc m) d [] h = refl
noted_cut (suc m) zero (n ∷ ns) h = refl
noted_cut (suc m) (suc d) (n ∷ ns) h = ap (λ (l : List ℕ). n ∷ l) (noted_cut m d ns (omega (arith, h)))

noted_past : (m d : ℕ) (counts : List ℕ) → m ≤ d → take m counts ≡ take m (noted d counts)
noted_past zero d counts h = refl
noted_past (suc m) d [] h = refl
noted_past (suc m) zero (n ∷ ns) h = absurd (omega (arith, h))
noted_past (suc m) (suc d) (n ∷ ns) h = ap (λ (l : List ℕ). n ∷ l) (noted_past m d ns (omega (arith, h)))

referred_cut : (m d : ℕ) (counts : List ℕ) → d < m → d ≤ length counts → referred d (take m counts) ≡ take m (referred d counts)
referred_cut m d counts h g = inside (nat_lt d (length counts)) refl
  where
    inside : (b : Bool) → nat_lt d (length counts) ≡ b → referred d (take m counts) ≡ take m (cond b (noted d counts) (counts ++ 0 ∷ []))
    inside true e =
        let cut : nat_lt d (length (take m counts)) ≡ true = yes_less d (length (take m counts)) (cut_whole d m counts h (less d (length counts) e)) in
        ap (λ (b : Bool). cond b (noted d (take m counts)) (take m counts ++ 0 ∷ [])) cut ∙ noted_cut m d counts h
    inside false e =
        let past : length counts ≤ d = most d (length counts) e in
        let whole : take m counts ≡ counts = take_all m counts (omega (arith, past, h)) in
        let size : length (counts ++ 0 ∷ []) ≡ suc (length counts) = length_one_more counts 0 in
        ap (referred d) whole ∙ ap (λ (b : Bool). cond b (noted d counts) (counts ++ 0 ∷ [])) e ∙ sym (take_all m (counts ++ 0 ∷ []) (omega (arith, past, h, g, size)))

referred_past : (m d : ℕ) (counts : List ℕ) → m ≤ d → d ≤ length counts → take m counts ≡ take m (referred d counts)
referred_past m d counts h g = inside (nat_lt d (length counts))
  where
    inside : (b : Bool) → take m counts ≡ take m (cond b (noted d counts) (counts ++ 0 ∷ []))
    inside true = noted_past m d counts h
    inside false = sym (cut_before m counts (0 ∷ []) (omega (arith, h, g)))

within_cut : (k m : ℕ) (counts : List ℕ) → k ≤ m → hits_within k (take m counts) ≡ hits_within k counts
within_cut zero m counts h = refl
within_cut (suc k) zero counts h = absurd (omega (arith, h))
within_cut (suc k) (suc m) [] h = refl
within_cut (suc k) (suc m) (n ∷ ns) h = ap (λ (t : ℕ). n + t) (within_cut k m ns (omega (arith, h)))

few_cut : (n m : ℕ) (ks : List ℕ) → Few n ks → Few n (take m ks)
few_cut n zero ks h = tt
few_cut n (suc m) [] h = tt
few_cut n (suc m) (k ∷ ks) h = (h.0, few_cut n m ks h.1)

-- ---- along a string

-- Before the reference at `at`: the first places of the stack, and the first counts, so many of each at most.
pub record CutCounting (bound at : ℕ) (counts stack : List ℕ) (string : List Key) : Type 0 where
  pub deep_counts : List ℕ
  pub deep_stack : List ℕ
  pub counting : OptimumCounting at deep_counts deep_stack string
  pub counts_cut : counts ≡ take bound deep_counts
  pub stack_cut : stack ≡ take bound deep_stack

pub cut_open : (bound : ℕ) (counts stack : List ℕ) (string : List Key) → counts ≡ [] → stack ≡ [] → CutCounting bound 0 counts stack string
cut_open bound counts stack string c s = record {
  deep_counts = [];
  deep_stack = [];
  counting = optimum_counting_open [] [] string refl refl;
  counts_cut = c ∙ sym (cut_none bound);
  stack_cut = s ∙ sym (cut_none bound);
}

-- one reference more, wherever its page is
pub cut_on : (bound at next d depth : ℕ) (counts more stack after uses : List ℕ) (string : List Key) → 0 < bound → uses ≡ next_uses string → at < length uses → next ≡ place (length uses) at (slice_index_or uses at d)
    → depth ≡ place_depth at stack → more ≡ cond (nat_lt depth bound) (referred depth counts) counts → after ≡ take bound (restacked at next stack) → CutCounting bound at counts stack string → CutCounting bound (at + 1) more after string
cut_on bound at next d depth counts more stack after uses string some is inside to deep noted_is after_is before = record {
  deep_counts = referred (place_depth at before.deep_stack) before.deep_counts;
  deep_stack = restacked at next before.deep_stack;
  counting = optimum_counting_on at next d (place_depth at before.deep_stack) before.deep_counts (referred (place_depth at before.deep_stack) before.deep_counts) before.deep_stack (restacked at next before.deep_stack) uses string
      is inside to refl refl refl before.counting;
  counts_cut = noted_is ∙ by_depth (nat_lt (place_depth at before.deep_stack) bound) refl;
  stack_cut = after_is ∙ ap (λ (l : List ℕ). take bound (restacked at next l)) before.stack_cut ∙ restacked_cut bound at next before.deep_stack some;
}
  where
    found : depth ≡ place_depth at (take bound before.deep_stack)
    found = deep ∙ ap (place_depth at) before.stack_cut

    all_few : place_depth at before.deep_stack ≤ length before.deep_counts
    all_few =
        let few : place_depth at before.deep_stack ≤ length before.deep_stack = depth_few at before.deep_stack in
        let size : length before.deep_counts ≡ length before.deep_stack = before.counting.size in omega (arith, few, size)

    by_depth : (b : Bool) → nat_lt (place_depth at before.deep_stack) bound ≡ b → cond (nat_lt depth bound) (referred depth counts) counts ≡ take bound (referred (place_depth at before.deep_stack) before.deep_counts)
    by_depth true h =
        let above : place_depth at before.deep_stack < bound = less (place_depth at before.deep_stack) bound h in
        let same : depth ≡ place_depth at before.deep_stack = found ∙ depth_inside bound at before.deep_stack above in
        ap (λ (b : Bool). cond b (referred depth counts) counts) (ap (λ (k : ℕ). nat_lt k bound) same ∙ h) ∙ ap (λ (k : ℕ). referred k counts) same ∙ ap (referred (place_depth at before.deep_stack)) before.counts_cut
        ∙ referred_cut bound (place_depth at before.deep_stack) before.deep_counts above all_few
    by_depth false h =
        let below : bound ≤ place_depth at before.deep_stack = most (place_depth at before.deep_stack) bound h in
        let same : depth ≡ bound = found ∙ depth_past bound at before.deep_stack below in
        ap (λ (b : Bool). cond b (referred depth counts) counts) (ap (λ (k : ℕ). nat_lt k bound) same ∙ no_less bound bound (omega arith)) ∙ before.counts_cut ∙ referred_past bound (place_depth at before.deep_stack) before.deep_counts below all_few

-- at the end
pub cut_end : (bound at : ℕ) (counts stack uses : List ℕ) (string : List Key) → uses ≡ next_uses string → length uses ≤ at → at ≤ length uses → CutCounting bound at counts stack string → CountsOptimum bound counts string
cut_end bound at counts stack uses string is past within before m h =
    let all : optimal_misses (m + 1) string + hits_within (m + 1) before.deep_counts ≡ length string = optimum_counting_end at before.deep_counts before.deep_stack uses string is past within before.counting m in
    let first : hits_within (m + 1) counts ≡ hits_within (m + 1) before.deep_counts = ap (hits_within (m + 1)) before.counts_cut ∙ within_cut (m + 1) bound before.deep_counts (omega (arith, h)) in
    omega (arith, all, first)

-- there are so many places at most
pub cut_stack_few : (bound at : ℕ) (counts stack : List ℕ) (string : List Key) → CutCounting bound at counts stack string → length stack ≤ bound
cut_stack_few bound at counts stack string before =
    let size : length stack ≡ length (take bound before.deep_stack) = ap length before.stack_cut in
    let few : length (take bound before.deep_stack) ≤ bound = cut_few bound before.deep_stack in omega (arith, size, few)

-- a count has room for one more
pub cut_count_small : (bound at d : ℕ) (counts stack : List ℕ) (string : List Key) → CutCounting bound at counts stack string → at < 2 ^ 63 → d < length counts → slice_index_or counts d 0 < 2 ^ 63
cut_count_small bound at d counts stack string before h inside =
    let few : Few at counts = subst (λ (l : List ℕ). Few at l) (sym before.counts_cut) (few_cut at bound before.deep_counts before.counting.few) in
    let f : slice_index_or counts d 0 ≤ at = few_at at d counts few inside in omega (arith, f, h)
