-- Places that count while they are the last use of their page: proofs.
use Rattle.std.specs.Prelude.{◌≡◌, ℕ, suc, ◌+◌, ◌^◌, ◌<◌, ◌≤◌, Bool, true, false, cond, nat_lt, List, [], ◌∷◌, drop, length, replicate, slice_index_or, Option, Some, None, ⊤, refl}
use Rattle.std.proofs.Common.{arith, sym, ap, subst, ◌∙◌}
use Rattle.std.proofs.lemmas.Bool.Decides.{nat_tests}
use Rattle.std.proofs.lemmas.Option.{same_Some}
use Rattle.clock_policy.specs.declared.key.Key.{Key}
use Rattle.page_policies.specs.Strings.{is_page, without}
use Rattle.page_policies.proofs.QueueLaws.{same}
use Rattle.page_policies.specs.Ordered.{to_front}
use Rattle.page_policies.specs.Demand.{one}
use Rattle.whole_strings.specs.LruDepths.{IsLruCurve, tails, referred}
use Rattle.whole_strings.proofs.LruDepthLaws.{flip_page, Counting, counting_along, counting_begins, counting_end, count_small, depth, depth as depth_of_page}
use Rattle.whole_strings.specs.LastPlaces.{sum_from, Left, MayLeave, AreSummed, Adds}
use Rattle.whole_strings.specs.declared.last_places.LastPlaces.{LastPlaces}
use Rattle.page_policies.proofs.NumberLaws.{yes_less, no_less}
use Rattle.whole_strings.proofs.PlaceSumLaws.{sum_here, sums_none, length_replicate}

-- ---- the stack, each page with the place of its last use

-- the place that stands beside a page
abbrev pub place_of : Key → List Key → List ℕ → Option ℕ
place_of q [] ts = None
place_of q (s ∷ ss) [] = None
place_of q (s ∷ ss) (t ∷ ts) = cond (is_page s q) (Some t) (place_of q ss ts)

-- the places without the one that stands beside the page
abbrev pub places_without : Key → List Key → List ℕ → List ℕ
places_without p [] ts = ts
places_without p (s ∷ ss) [] = []
places_without p (s ∷ ss) (t ∷ ts) = cond (is_page p s) ts (t ∷ places_without p ss ts)

-- places that fall, all below a bound
abbrev pub FallBelow : ℕ → List ℕ → Type 0
FallBelow b [] = ⊤
FallBelow b (t ∷ ts) = (t < b) × FallBelow t ts

-- how many are at a place or behind it
abbrev pub number_from : ℕ → List ℕ → ℕ
number_from k [] = 0
number_from k (t ∷ ts) = one (nat_lt k (suc t)) + number_from k ts

falls_more : (a b : ℕ) (ts : List ℕ) → a ≤ b → FallBelow a ts → FallBelow b ts
falls_more a b [] h f = tt
falls_more a b (t ∷ ts) h f = let e : t < a = f.0 in (omega (arith, e, h), f.1)

falls_few : (b : ℕ) (ts : List ℕ) → FallBelow b ts → length ts ≤ b
falls_few b [] f = omega arith
falls_few b (t ∷ ts) f = let e : t < b = f.0 in let g : length ts ≤ t = falls_few t ts f.1 in omega (arith, e, g)

number_few : (k : ℕ) (ts : List ℕ) → number_from k ts ≤ length ts
number_few k [] = omega arith
number_few k (t ∷ ts) = let e : number_from k ts ≤ length ts = number_few k ts in let f : one (nat_lt k (suc t)) ≤ 1 = single (nat_lt k (suc t)) in omega (arith, e, f)
  where
    single : (b : Bool) → one b ≤ 1
    single true = omega arith
    single false = omega arith

number_none : (k b : ℕ) (ts : List ℕ) → b ≤ k → FallBelow b ts → number_from k ts ≡ 0
number_none k b [] h f = refl
number_none k b (t ∷ ts) h f =
    let e : t < b = f.0 in
    let none : one (nat_lt k (suc t)) ≡ 0 = ap one (no_less k (suc t) (omega (arith, e, h))) in
    let rest : number_from k ts ≡ 0 = number_none k t ts (omega (arith, e, h)) f.1 in omega (arith, none, rest)

number_less : (k : ℕ) (ts : List ℕ) → number_from (suc k) ts ≤ number_from k ts
number_less k [] = omega arith
number_less k (t ∷ ts) =
    let later : number_from (suc k) ts ≤ number_from k ts = number_less k ts in
    let e : one (nat_lt (suc k) (suc t)) ≤ one (nat_lt k (suc t)) = fewer (nat_lt (suc k) (suc t)) (nat_lt k (suc t)) (also k (suc t)) in omega (arith, later, e)
  where
    also : (a b : ℕ) → nat_lt (suc a) b ≡ true → nat_lt a b ≡ true
    also a b h = grind (arith, nat_tests)

    fewer : (a b : Bool) → (a ≡ true → b ≡ true) → one a ≤ one b
    fewer true b h = rw (h refl) (omega arith)
    fewer false b h = omega arith

place_below : (p : Key) (ss : List Key) (ts : List ℕ) (b t : ℕ) → FallBelow b ts → place_of p ss ts ≡ Some t → t < b
place_below p [] ts b t f is = absurd (none is)
  where
    none : ◌≡◌ {A = Option ℕ} None (Some t) → ⊥
    none e = cc
place_below p (s ∷ ss) [] b t f is = absurd (none is)
  where
    none : ◌≡◌ {A = Option ℕ} None (Some t) → ⊥
    none e = cc
place_below p (s ∷ ss) (u ∷ us) b t f is = elim (is_page s p) as (λ c. cond c (Some u) (place_of p ss us) ≡ Some t → t < b) [
  | true ↦ λ e. let same_place : u ≡ t = same_Some u t e in let h : u < b = f.0 in omega (arith, same_place, h)
  | false ↦ λ e. let h : u < b = f.0 in let g : t < u = place_below p ss us u t f.1 e in omega (arith, h, g)
] is

-- where a page is there, as many stand before it as places are behind its own
pub depth_found : (p : Key) (ss : List Key) (ts : List ℕ) (b t : ℕ) → FallBelow b ts → place_of p ss ts ≡ Some t → depth p ss ≡ number_from (suc t) ts
depth_found p [] ts b t f is = absurd (none is)
  where
    none : ◌≡◌ {A = Option ℕ} None (Some t) → ⊥
    none e = cc
depth_found p (s ∷ ss) [] b t f is = absurd (none is)
  where
    none : ◌≡◌ {A = Option ℕ} None (Some t) → ⊥
    none e = cc
depth_found p (s ∷ ss) (u ∷ us) b t f is =
    ap (λ (c : Bool). let n : ℕ = cond c 0 (suc (depth p ss)) in n) (flip_page p s)
    ∙ (elim (is_page s p) as (λ c. cond c (Some u) (place_of p ss us) ≡ Some t → cond c 0 (suc (depth p ss)) ≡ one (nat_lt (suc t) (suc u)) + number_from (suc t) us) [
      | true ↦ λ e.
          let same_place : u ≡ t = same_Some u t e in
          let none : one (nat_lt (suc t) (suc u)) ≡ 0 = ap one (no_less (suc t) (suc u) (omega (arith, same_place))) in
          let rest : number_from (suc t) us ≡ 0 = number_none (suc t) u us (omega (arith, same_place)) f.1 in omega (arith, none, rest)
      | false ↦ λ e.
          let below : t < u = place_below p ss us u t f.1 e in
          let later : depth p ss ≡ number_from (suc t) us = depth_found p ss us u t f.1 e in
          let single : one (nat_lt (suc t) (suc u)) ≡ 1 = ap one (yes_less (suc t) (suc u) (omega (arith, below))) in omega (arith, later, single)
    ] is)

pub depth_none : (p : Key) (ss : List Key) (ts : List ℕ) → length ts ≡ length ss → place_of p ss ts ≡ None → depth p ss ≡ length ss
depth_none p [] ts h is = refl
depth_none p (s ∷ ss) [] h is = absurd (omega (arith, h))
depth_none p (s ∷ ss) (u ∷ us) h is =
    ap (λ (c : Bool). let n : ℕ = cond c 0 (suc (depth p ss)) in n) (flip_page p s)
    ∙ (elim (is_page s p) as (λ c. cond c (Some u) (place_of p ss us) ≡ None → cond c 0 (suc (depth p ss)) ≡ suc (length ss)) [
      | true ↦ λ e. absurd (some u e)
      | false ↦ λ e. ap suc (depth_none p ss us (omega (arith, h)) e)
    ] is)
  where
    some : (u : ℕ) → Some u ≡ None → ⊥
    some u e = cc

number_without : (k : ℕ) (p : Key) (ss : List Key) (ts : List ℕ) (t : ℕ) → place_of p ss ts ≡ Some t → number_from k ts ≡ number_from k (places_without p ss ts) + one (nat_lt k (suc t))
number_without k p [] ts t is = absurd (none is)
  where
    none : ◌≡◌ {A = Option ℕ} None (Some t) → ⊥
    none e = cc
number_without k p (s ∷ ss) [] t is = absurd (none is)
  where
    none : ◌≡◌ {A = Option ℕ} None (Some t) → ⊥
    none e = cc
number_without k p (s ∷ ss) (u ∷ us) t is =
    (elim (is_page s p) as (λ c. cond c (Some u) (place_of p ss us) ≡ Some t → one (nat_lt k (suc u)) + number_from k us ≡ number_from k (cond c us (u ∷ places_without p ss us)) + one (nat_lt k (suc t))) [
      | true ↦ λ e. let f : one (nat_lt k (suc u)) ≡ one (nat_lt k (suc t)) = ap (λ (n : ℕ). one (nat_lt k (suc n))) (same_Some u t e) in omega (arith, f)
      | false ↦ λ e. let later : number_from k us ≡ number_from k (places_without p ss us) + one (nat_lt k (suc t)) = number_without k p ss us t e in omega (arith, later)
    ] is)
    ∙ ap (λ (c : Bool). number_from k (cond c us (u ∷ places_without p ss us)) + one (nat_lt k (suc t))) (flip_page s p)

falls_without : (b : ℕ) (p : Key) (ss : List Key) (ts : List ℕ) → FallBelow b ts → FallBelow b (places_without p ss ts)
falls_without b p [] ts f = f
falls_without b p (s ∷ ss) [] f = tt
falls_without b p (s ∷ ss) (u ∷ us) f = elim (is_page p s) as (λ c. FallBelow b (cond c us (u ∷ places_without p ss us))) [
  | true ↦ let h : u < b = f.0 in falls_more u b us (omega (arith, h)) f.1
  | false ↦ (f.0, falls_without u p ss us f.1)
]

length_both : (p : Key) (ss : List Key) (ts : List ℕ) → length ts ≡ length ss → length (places_without p ss ts) ≡ length (without p ss)
length_both p [] ts h = h
length_both p (s ∷ ss) [] h = absurd (omega (arith, h))
length_both p (s ∷ ss) (u ∷ us) h = elim (is_page p s) as (λ c. length (cond c us (u ∷ places_without p ss us)) ≡ length (cond c ss (s ∷ without p ss))) [
  | true ↦ omega (arith, h)
  | false ↦ ap suc (length_both p ss us (omega (arith, h)))
]

-- where no place stands beside the page, none goes
places_without_none : (p : Key) (ss : List Key) (ts : List ℕ) → length ts ≡ length ss → place_of p ss ts ≡ None → places_without p ss ts ≡ ts
places_without_none p [] ts h is = refl
places_without_none p (s ∷ ss) [] h is = absurd (omega (arith, h))
places_without_none p (s ∷ ss) (u ∷ us) h is =
    ap (λ (c : Bool). cond c us (u ∷ places_without p ss us)) (flip_page p s)
    ∙ (elim (is_page s p) as (λ c. cond c (Some u) (place_of p ss us) ≡ None → cond c us (u ∷ places_without p ss us) ≡ u ∷ us) [
      | true ↦ λ e. absurd (some u e)
      | false ↦ λ e. ap (λ (l : List ℕ). u ∷ l) (places_without_none p ss us (omega (arith, h)) e)
    ] is)
  where
    some : (u : ℕ) → Some u ≡ None → ⊥
    some u e = cc

others_stay : (p q : Key) (ss : List Key) (ts : List ℕ) → is_page p q ≡ false → place_of q (without p ss) (places_without p ss ts) ≡ place_of q ss ts
others_stay p q [] ts h = refl
others_stay p q (s ∷ ss) [] h = elim (is_page p s) as (λ c. place_of q (cond c ss (s ∷ without p ss)) [] ≡ None) [
  | true ↦ empty q ss
  | false ↦ refl
]
  where
    empty : (q : Key) (ss : List Key) → place_of q ss [] ≡ None
    empty q [] = refl
    empty q (s ∷ ss) = refl
others_stay p q (s ∷ ss) (u ∷ us) h = elim (is_page p s) as (λ c. is_page p s ≡ c → place_of q (cond c ss (s ∷ without p ss)) (cond c us (u ∷ places_without p ss us)) ≡ cond (is_page s q) (Some u) (place_of q ss us)) [
  | true ↦ λ is. sym (ap (λ (c : Bool). cond c (Some u) (place_of q ss us)) (ap (λ (k : Key). is_page k q) (sym (same p s is)) ∙ h))
  | false ↦ λ is. ap (λ (o : Option ℕ). cond (is_page s q) (Some u) o) (others_stay p q ss us h)
] refl

-- after a use
used_place : (p q : Key) (seen : ℕ) (ss : List Key) (ts : List ℕ) → place_of q (to_front p ss) (seen ∷ places_without p ss ts) ≡ cond (is_page p q) (Some seen) (place_of q ss ts)
used_place p q seen ss ts = elim (is_page p q) as (λ c. is_page p q ≡ c → cond c (Some seen) (place_of q (without p ss) (places_without p ss ts)) ≡ cond c (Some seen) (place_of q ss ts)) [
  | true ↦ λ is. refl
  | false ↦ λ is. others_stay p q ss ts is
] refl

-- Before the reference at `seen`: the stack, each page with the place of its last use, where the map knows it and a place counts.
pub record Places (seen : ℕ) (counts : List ℕ) (ends : Key → Option ℕ) (places : LastPlaces) (string : List Key) : Type 0 where
  pub stack : List Key
  pub times : List ℕ
  pub counting : Counting seen counts stack (drop seen string) string
  pub paired : length times ≡ length stack
  pub ordered : FallBelow seen times
  pub known : (q : Key) → ends q ≡ place_of q stack times
  pub counted : (k : ℕ) → sum_from k places.places.items ≡ number_from k times
  pub sums : AreSummed places
  pub size : length places.places.items ≡ length string

pub places_open : (counts : List ℕ) (ends : Key → Option ℕ) (places : LastPlaces) (string : List Key) → counts ≡ [] → ((q : Key) → ends q ≡ None) → AreSummed places → places.places.items ≡ replicate (length string) 0 → Places 0 counts ends places string
places_open counts ends places string none known sums is = record {
  stack = [];
  times = [];
  counting = counting_begins counts [] string none refl;
  paired = refl;
  ordered = tt;
  known = known;
  counted = λ k. ap (sum_from k) is ∙ sums_none (length string) k;
  sums = sums;
  size = ap length is ∙ length_replicate (length string);
}

-- what a known place is good for
pub record Known (seen depth t : ℕ) (places : LastPlaces) (string : List Key) : Type 0 where
  pub inside : t < length places.places.items
  pub some : 0 < slice_index_or places.places.items t 0
  pub deep : depth ≡ sum_from (t + 1) places.places.items

pub total_few : (seen : ℕ) (counts : List ℕ) (ends : Key → Option ℕ) (places : LastPlaces) (string : List Key) → Places seen counts ends places string → sum_from 0 places.places.items ≤ seen
total_few seen counts ends places string before =
    let all : sum_from 0 places.places.items ≡ number_from 0 before.times = before.counted 0 in
    let few : number_from 0 before.times ≤ length before.times = number_few 0 before.times in
    let below : length before.times ≤ seen = falls_few seen before.times before.ordered in omega (arith, all, few, below)

pub place_known : (seen t : ℕ) (p : Key) (counts : List ℕ) (ends : Key → Option ℕ) (places : LastPlaces) (string : List Key) → seen < length string → ends p ≡ Some t → (before : Places seen counts ends places string) → Known seen (depth p before.stack) t places string
place_known seen t p counts ends places string inside is before =
    let there : place_of p before.stack before.times ≡ Some t = sym (before.known p) ∙ is in
    let below : t < seen = place_below p before.stack before.times seen t before.ordered there in
    let size : length places.places.items ≡ length string = before.size in
    let here : sum_from t places.places.items ≡ slice_index_or places.places.items t 0 + sum_from (suc t) places.places.items = sum_here t places.places.items in
    let now : sum_from t places.places.items ≡ number_from t before.times = before.counted t in
    let next : sum_from (suc t) places.places.items ≡ number_from (suc t) before.times = before.counted (suc t) in
    let with_now : number_from t before.times ≡ number_from t (places_without p before.stack before.times) + one (nat_lt t (suc t)) = number_without t p before.stack before.times t there in
    let with_next : number_from (suc t) before.times ≡ number_from (suc t) (places_without p before.stack before.times) + one (nat_lt (suc t) (suc t)) = number_without (suc t) p before.stack before.times t there in
    let yes_now : one (nat_lt t (suc t)) ≡ 1 = ap one (yes_less t (suc t) (omega arith)) in
    let no_next : one (nat_lt (suc t) (suc t)) ≡ 0 = ap one (no_less (suc t) (suc t) (omega arith)) in
    let fewer : number_from (suc t) (places_without p before.stack before.times) ≤ number_from t (places_without p before.stack before.times) = number_less t (places_without p before.stack before.times) in
    record {
      inside = omega (arith, below, inside, size);
      some = omega (arith, here, now, next, with_now, with_next, yes_now, no_next, fewer);
      deep = depth_found p before.stack before.times seen t before.ordered there ∙ sym (before.counted (suc t)) ∙ ap (λ (k : ℕ). sum_from k places.places.items) (one_on t);
    }
  where
    one_on : (t : ℕ) → suc t ≡ t + 1
    one_on t = omega arith

pub may_leave : (seen : ℕ) (p : Key) (o : Option ℕ) (counts : List ℕ) (ends : Key → Option ℕ) (places : LastPlaces) (string : List Key) → seen < length string → ends p ≡ o → Places seen counts ends places string → MayLeave o places
may_leave seen p None counts ends places string inside is before = tt
may_leave seen p (Some t) counts ends places string inside is before = let known = place_known seen t p counts ends places string inside is before in (known.inside, known.some)

-- the reference at `seen`
places_on : (seen depth : ℕ) (p : Key) (o : Option ℕ) (counts next : List ℕ) (ends after : Key → Option ℕ) (old less new : LastPlaces) (string : List Key) → seen < length string → p ≡ slice_index_or string seen p → ends p ≡ o
    → Left o (length counts) old less depth → Adds seen less new → next ≡ referred depth counts → ((q : Key) → after q ≡ cond (is_page p q) (Some seen) (ends q)) → Places seen counts ends old string → Places (seen + 1) next after new string
places_on seen depth p (Some t) counts next ends after old less new string inside at is left adds noted_is known before =
    let place : Known seen (depth_of_page p before.stack) t old string = place_known seen t p counts ends old string inside is before in
    let there : place_of p before.stack before.times ≡ Some t = sym (before.known p) ∙ is in
    let deep : depth ≡ depth_of_page p before.stack = left.0 ∙ sym place.deep in
    record {
      stack = to_front p before.stack;
      times = seen ∷ places_without p before.stack before.times;
      counting = counting_along seen counts next p before.stack (to_front p before.stack) string inside at (noted_is ∙ ap (λ (k : ℕ). referred k counts) deep) refl before.counting;
      paired = ap suc (length_both p before.stack before.times before.paired);
      ordered = (omega arith, falls_without seen p before.stack before.times before.ordered);
      known = λ q. known q ∙ ap (λ (r : Option ℕ). cond (is_page p q) (Some seen) r) (before.known q) ∙ sym (used_place p q seen before.stack before.times);
      counted = λ k.
          let added : sum_from k new.places.items ≡ sum_from k less.places.items + one (nat_lt k (suc seen)) = adds.counted k in
          let removed : sum_from k old.places.items ≡ sum_from k less.places.items + one (nat_lt k (suc t)) = left.1.counted k in
          let had : sum_from k old.places.items ≡ number_from k before.times = before.counted k in
          let without_it : number_from k before.times ≡ number_from k (places_without p before.stack before.times) + one (nat_lt k (suc t)) = number_without k p before.stack before.times t there in
          omega (arith, added, removed, had, without_it);
      sums = adds.sums;
      size = adds.size ∙ left.1.size ∙ before.size;
    }
places_on seen depth p None counts next ends after old less new string inside at is left adds noted_is known before =
    let gone : place_of p before.stack before.times ≡ None = sym (before.known p) ∙ is in
    let deep : depth_of_page p before.stack ≡ length before.stack = depth_none p before.stack before.times before.paired gone in
    let same_depth : depth ≡ depth_of_page p before.stack = left.0 ∙ before.counting.size ∙ sym deep in
    let rest : places_without p before.stack before.times ≡ before.times = places_without_none p before.stack before.times before.paired gone in
    record {
      stack = to_front p before.stack;
      times = seen ∷ places_without p before.stack before.times;
      counting = counting_along seen counts next p before.stack (to_front p before.stack) string inside at (noted_is ∙ ap (λ (k : ℕ). referred k counts) same_depth) refl before.counting;
      paired = ap suc (length_both p before.stack before.times before.paired);
      ordered = (omega arith, falls_without seen p before.stack before.times before.ordered);
      known = λ q. known q ∙ ap (λ (r : Option ℕ). cond (is_page p q) (Some seen) r) (before.known q) ∙ sym (used_place p q seen before.stack before.times);
      counted = λ k.
          let added : sum_from k new.places.items ≡ sum_from k less.places.items + one (nat_lt k (suc seen)) = adds.counted k in
          let kept : sum_from k less.places.items ≡ sum_from k old.places.items = ap (λ (c : LastPlaces). sum_from k c.places.items) left.1 in
          let had : sum_from k old.places.items ≡ number_from k before.times = before.counted k in
          let same_times : number_from k (places_without p before.stack before.times) ≡ number_from k before.times = ap (number_from k) rest in
          omega (arith, added, kept, had, same_times);
      sums = adds.sums;
      size = adds.size ∙ ap (λ (c : LastPlaces). length c.places.items) left.1 ∙ before.size;
    }

-- the same, as the loop knows it
pub places_along : (seen depth pages : ℕ) (p : Key) (counts next : List ℕ) (ends after : Key → Option ℕ) (old less new : LastPlaces) (string : List Key) → seen < length string → p ≡ slice_index_or string seen p → pages ≡ length counts
    → Left (ends p) pages old less depth → Adds seen less new → next ≡ referred depth counts → ((q : Key) → after q ≡ cond (is_page p q) (Some seen) (ends q)) → Places seen counts ends old string → Places (seen + 1) next after new string
places_along seen depth pages p counts next ends after old less new string inside at many left adds noted_is known before =
    places_on seen depth p (ends p) counts next ends after old less new string inside at refl (subst (λ (n : ℕ). Left (ends p) n old less depth) many left) adds noted_is known before

pub places_end : (seen : ℕ) (counts : List ℕ) (ends : Key → Option ℕ) (places : LastPlaces) (string : List Key) → length string ≤ seen → seen ≤ length string → Places seen counts ends places string → IsLruCurve (tails (length string) counts) string
places_end seen counts ends places string past within before = counting_end seen counts before.stack string past within before.counting

pub places_small : (seen d : ℕ) (counts : List ℕ) (ends : Key → Option ℕ) (places : LastPlaces) (string : List Key) → Places seen counts ends places string → seen < 2 ^ 63 → d < length counts → slice_index_or counts d 0 < 2 ^ 63
places_small seen d counts ends places string before h inside = count_small seen d counts before.stack (drop seen string) string before.counting h inside

-- what a place that leaves leaves of the whole
pub left_few : (o : Option ℕ) (pages depth : ℕ) (old new : LastPlaces) → Left o pages old new depth → sum_from 0 new.places.items ≤ sum_from 0 old.places.items
left_few None pages depth old new left = let e : sum_from 0 new.places.items ≡ sum_from 0 old.places.items = ap (λ (c : LastPlaces). sum_from 0 c.places.items) left.1 in omega (arith, e)
left_few (Some t) pages depth old new left = let e : sum_from 0 old.places.items ≡ sum_from 0 new.places.items + one (nat_lt 0 (suc t)) = left.1.counted 0 in omega (arith, e)
