-- Working sets counted by how far ahead each page is used again: proofs.
use Rattle.std.specs.Prelude.{◌≡◌, ℕ, zero, suc, ◌+◌, ◌-◌, ◌<◌, ◌≤◌, ◌&&◌, ◌==◌, Bool, true, false, cond, nat_le, nat_lt, List, [], ◌∷◌, take, drop, length, slice_index_or, slice_get, Some, min, ◌++◌, ◌^◌, refl}
use Rattle.std.proofs.Common.{arith, sym, ap, ◌∙◌, subst, replicate}
use Rattle.std.proofs.Math.ListN.{length-replicate}
use Rattle.std.proofs.lemmas.Bool.Decides.{nat_tests}
use Rattle.clock_policy.specs.declared.key.Key.{Key}
use Rattle.page_policies.specs.Strings.{is_page, holds}
use Rattle.page_policies.specs.Optimal.{next_use}
use Rattle.page_policies.specs.NextUses.{next_uses}
use Rattle.page_policies.specs.Demand.{one}
use Rattle.page_policies.proofs.QueueLaws.{same}
use Rattle.whole_strings.specs.LruDepths.{hits_within, noted}
use Rattle.whole_strings.proofs.LruDepthLaws.{noted_within, length_noted, length_new, Few, few_more, few_noted}
use Rattle.whole_strings.proofs.PlaceStepLaws.{length_uses}
use Rattle.whole_strings.specs.WorkingSets.{pages_beside, set_size, sizes_from, missing_from, set_sizes, set_misses, at_most_word, counts_of, IsWindowCurve, reaching, comes_back, returning, IsAhead, IsReturning, Inside}
use Rattle.whole_strings.specs.declared.working_sets.WindowCounts.{WindowCounts}

-- ---- pages

alike : (a b : ℕ) → (a == b) ≡ (b == a)
alike a b = grind (arith, nat_tests)

turned : (p q : Key) → is_page p q ≡ is_page q p
turned p q = λ i. alike p.process q.process i && alike p.vpn q.vpn i

-- the pages of a list beside a further page
abbrev Joins : Key → List Key → List Key → Type 0
Joins p others others' = (x : Key) → holds x others' ≡ cond (is_page x p) true (holds x others)

swapped : (a b c : Bool) → cond a true (cond b true c) ≡ cond b true (cond a true c)
swapped true true c = refl
swapped true false c = refl
swapped false true c = refl
swapped false false c = refl

joins_more : (p q : Key) (others others' : List Key) → Joins p others others' → Joins p (q ∷ others) (q ∷ others')
joins_more p q others others' h x = ap (λ (b : Bool). cond (is_page x q) true b) (h x) ∙ swapped (is_page x q) (is_page x p) (holds x others)

-- ---- sizes

-- whether the page at a depth is not among others, nor above
abbrev fresh : ℕ → List Key → List Key → ℕ
fresh depth others [] = 0
fresh zero others (q ∷ qs) = cond (holds q others) 0 1
fresh (suc depth) others (q ∷ qs) = fresh depth (q ∷ others) qs

fresh_none : (depth : ℕ) (others : List Key) → fresh depth others [] ≡ 0
fresh_none zero others = refl
fresh_none (suc depth) others = refl

no_pages : (window : ℕ) → ◌≡◌ {A = List Key} (take window []) []
no_pages zero = refl
no_pages (suc window) = refl

one_more : (window : ℕ) (others past : List Key) → pages_beside others (take (suc window) past) ≡ pages_beside others (take window past) + fresh window others past
one_more window others [] = sym (ap (λ (l : List Key). pages_beside others l + fresh window others []) (no_pages window) ∙ fresh_none window others)
one_more zero others (q ∷ qs) = let e : pages_beside (q ∷ others) (take 0 qs) ≡ 0 = refl in omega (arith, e)
one_more (suc window) others (q ∷ qs) = let e = one_more window (q ∷ others) qs in omega (arith, e)

abbrev fresh_from : ℕ → List Key → List Key → ℕ
fresh_from window past [] = 0
fresh_from window past (p ∷ ps) = fresh window [] (p ∷ past) + fresh_from window (p ∷ past) ps

sizes_more : (window : ℕ) (past string : List Key) → sizes_from (suc window) past string ≡ sizes_from window past string + fresh_from window past string
sizes_more window past [] = refl
sizes_more window past (p ∷ ps) =
    let now : set_size (suc window) (p ∷ past) ≡ set_size window (p ∷ past) + fresh window [] (p ∷ past) = one_more window [] (p ∷ past) in
    let later = sizes_more window (p ∷ past) ps in
    omega (arith, now, later)

sizes_zero : (past string : List Key) → sizes_from 0 past string ≡ 0
sizes_zero past [] = refl
sizes_zero past (p ∷ ps) = let later = sizes_zero (p ∷ past) ps in omega (arith, later)

-- of the pages of a past down to a depth, how many will be at this depth, not used before
abbrev waits : ℕ → List Key → List Key → List Key → ℕ
waits zero others past string = 0
waits (suc left) others [] string = 0
waits (suc left) others (q ∷ qs) string = cond (holds q others) 0 (one (nat_le (suc left) (next_use q string))) + waits left (q ∷ others) qs string

never : (n : ℕ) → nat_le (suc n) 0 ≡ false
never n = grind (arith, nat_tests)

either_none : (b : Bool) → ◌≡◌ {A = ℕ} (cond b 0 0) 0
either_none true = refl
either_none false = refl

waits_end : (left : ℕ) (others past : List Key) → waits left others past [] ≡ 0
waits_end zero others past = refl
waits_end (suc left) others [] = refl
waits_end (suc left) others (q ∷ qs) =
    let now : ◌≡◌ {A = ℕ} (cond (holds q others) 0 (one (nat_le (suc left) 0))) 0 = ap (λ (b : Bool). let n : ℕ = cond (holds q others) 0 (one b) in n) (never left) ∙ either_none (holds q others) in
    let later = waits_end left (q ∷ others) qs in
    omega (arith, now, later)

lower : (m n : ℕ) → nat_le (suc m) (suc n) ≡ nat_le m n
lower m n = grind (arith, nat_tests)

least : (n : ℕ) → nat_le 0 n ≡ true
least n = grind (arith, nat_tests)

-- one page of the past, at a reference: by whether it is the page, and whether it stands above
wait_last : (b among : Bool) (n : ℕ) → ◌≡◌ {A = ℕ} (cond among 0 (one (nat_le 1 (cond b 0 (suc n))))) (cond (cond b true among) 0 1)
wait_last true true n = refl
wait_last true false n = ap one (never 0)
wait_last false true n = refl
wait_last false false n = ap one (lower 0 n ∙ least n)

wait_on : (b among : Bool) (left n : ℕ) → ◌≡◌ {A = ℕ} (cond among 0 (one (nat_le (suc (suc left)) (cond b 0 (suc n))))) (cond (cond b true among) 0 (one (nat_le (suc left) n)))
wait_on true true left n = refl
wait_on true false left n = ap one (never (suc left))
wait_on false true left n = refl
wait_on false false left n = ap one (lower (suc left) n)

waits_step : (left : ℕ) (others others' past : List Key) (p : Key) (ps : List Key) → Joins p others others'
    → waits (suc left) others past (p ∷ ps) ≡ fresh left others' past + waits left others' past ps
waits_step zero others others' [] p ps h = refl
waits_step (suc left) others others' [] p ps h = refl
waits_step zero others others' (q ∷ qs) p ps h =
    let among : holds q others' ≡ cond (is_page p q) true (holds q others) = h q ∙ ap (λ (b : Bool). cond b true (holds q others)) (turned q p) in
    let now : ◌≡◌ {A = ℕ} (cond (holds q others) 0 (one (nat_le 1 (next_use q (p ∷ ps))))) (cond (holds q others') 0 1) =
    wait_last (is_page p q) (holds q others) (next_use q ps) ∙ ap (λ (b : Bool). let n : ℕ = cond b 0 1 in n) (sym among) in
    omega (arith, now)
waits_step (suc left) others others' (q ∷ qs) p ps h =
    let among : holds q others' ≡ cond (is_page p q) true (holds q others) = h q ∙ ap (λ (b : Bool). cond b true (holds q others)) (turned q p) in
    let now : ◌≡◌ {A = ℕ} (cond (holds q others) 0 (one (nat_le (suc (suc left)) (next_use q (p ∷ ps))))) (cond (holds q others') 0 (one (nat_le (suc left) (next_use q ps)))) =
    wait_on (is_page p q) (holds q others) left (next_use q ps) ∙ ap (λ (b : Bool). let n : ℕ = cond b 0 (one (nat_le (suc left) (next_use q ps))) in n) (sym among) in
    let later = waits_step left (q ∷ others) (q ∷ others') qs p ps (joins_more p q others others' h) in
    omega (arith, now, later)

alone : (p : Key) → Joins p [] (p ∷ [])
alone p x = refl

fresh_is : (window : ℕ) (past string : List Key) → fresh_from window past string ≡ waits window [] past string + reaching window string
fresh_is window past [] = sym (ap (λ n. n + 0) (waits_end window [] past))
fresh_is zero past (p ∷ ps) =
    let later = fresh_is zero (p ∷ past) ps in
    let now : ◌≡◌ {A = ℕ} (one (nat_le 0 (next_use p ps))) 1 = ap one (least (next_use p ps)) in
    omega (arith, later, now)
fresh_is (suc window) past (p ∷ ps) =
    let later = fresh_is (suc window) (p ∷ past) ps in
    let step = waits_step window [] (p ∷ []) past p ps (alone p) in
    omega (arith, later, step)

-- so with a window of one more the sizes are more by these references
pub sizes_grow : (window : ℕ) (string : List Key) → set_sizes (suc window) string ≡ set_sizes window string + reaching window string
unfolding set_sizes
sizes_grow window string =
    let more = sizes_more window [] string in
    let new = fresh_is window [] string in
    let none : waits window [] [] string ≡ 0 = nothing window in
    omega (arith, more, new, none)
  where
    nothing : (window : ℕ) → waits window [] [] string ≡ 0
    nothing zero = refl
    nothing (suc window) = refl

pub sizes_open : (string : List Key) → set_sizes 0 string ≡ 0
unfolding set_sizes
sizes_open string = sizes_zero [] string

-- ---- references that are found

abbrev found_from : ℕ → List Key → List Key → ℕ
found_from window past [] = 0
found_from window past (p ∷ ps) = one (holds p (take window past)) + found_from window (p ∷ past) ps

found_or_not : (b : Bool) → ◌≡◌ {A = ℕ} (cond b 0 1 + one b) 1
found_or_not true = refl
found_or_not false = refl

missing_found : (window : ℕ) (past string : List Key) → missing_from window past string + found_from window past string ≡ length string
missing_found window past [] = refl
missing_found window past (p ∷ ps) =
    let now = found_or_not (holds p (take window past)) in
    let later = missing_found window (p ∷ past) ps in
    omega (arith, now, later)

-- of the pages of a past down to a depth, how many will be found
abbrev due : ℕ → List Key → List Key → List Key → ℕ
due zero others past string = 0
due (suc left) others [] string = 0
due (suc left) others (q ∷ qs) string = cond (holds q others) 0 (one (comes_back (suc left) q string)) + due left (q ∷ others) qs string

abbrev found : ℕ → List Key → List Key → Key → ℕ
found left others past p = cond (holds p others) 0 (one (holds p (take left past)))

not_below : (n : ℕ) → nat_lt n 0 ≡ false
not_below n = grind (arith, nat_tests)

below_some : (n : ℕ) → nat_lt 0 (suc n) ≡ true
below_some n = grind (arith, nat_tests)

below_both : (m n : ℕ) → nat_lt (suc m) (suc n) ≡ nat_lt m n
below_both m n = grind (arith, nat_tests)

both_false : (b : Bool) → (b && false) ≡ false
both_false true = refl
both_false false = refl

back_none : (q : Key) (string : List Key) → comes_back 0 q string ≡ false
back_none q string = ap (λ (b : Bool). b && nat_lt (next_use q string) (length string)) (not_below (next_use q string))

back_end : (window : ℕ) (q : Key) → comes_back window q [] ≡ false
back_end window q = ap (λ (b : Bool). nat_lt 0 window && b) (not_below 0) ∙ both_false (nat_lt 0 window)

back_step : (left : ℕ) (q p : Key) (ps : List Key) → comes_back (suc left) q (p ∷ ps) ≡ cond (is_page p q) true (comes_back left q ps)
back_step left q p ps = by (is_page p q)
  where
    by : (b : Bool) → (nat_lt (cond b 0 (suc (next_use q ps))) (suc left) && nat_lt (cond b 0 (suc (next_use q ps))) (suc (length ps))) ≡ cond b true (comes_back left q ps)
    by true = (λ i. below_some left i && below_some (length ps) i)
    by false = (λ i. below_both (next_use q ps) left i && below_both (next_use q ps) (length ps) i)

-- one page of the past, at a reference
due_one : (b among of : Bool) (back held : Bool) → (b ≡ true → of ≡ among)
    → ◌≡◌ {A = ℕ} (cond among 0 (one (cond b true back)) + cond (cond b true of) 0 (one held)) (cond of 0 (one (cond b true held)) + cond (cond b true among) 0 (one back))
due_one true among of back held same = ap (λ (x : Bool). let n : ℕ = cond x 0 1 in n + 0) (sym (same refl))
due_one false true true back held same = refl
due_one false true false back held same = let n : ℕ = one held in omega arith
due_one false false true back held same = let n : ℕ = one back in omega arith
due_one false false false back held same = let n : ℕ = one back in let m : ℕ = one held in omega arith

same_held : (p q : Key) (others : List Key) → is_page p q ≡ true → holds p others ≡ holds q others
same_held p q others h = ap (λ x. holds x others) (same p q h)

due_end : (left : ℕ) (others past : List Key) → due left others past [] ≡ 0
due_end zero others past = refl
due_end (suc left) others [] = refl
due_end (suc left) others (q ∷ qs) =
    let now : ◌≡◌ {A = ℕ} (cond (holds q others) 0 (one (comes_back (suc left) q []))) 0 = ap (λ (b : Bool). let n : ℕ = cond (holds q others) 0 (one b) in n) (back_end (suc left) q) ∙ either_none (holds q others) in
    let later = due_end left (q ∷ others) qs in
    omega (arith, now, later)

not_now : (b among of : Bool) → (b ≡ true → of ≡ among) → ◌≡◌ {A = ℕ} (cond among 0 (one (cond b true false))) (cond of 0 (one (cond b true false)))
not_now true among of same = ap (λ (x : Bool). let n : ℕ = cond x 0 1 in n) (sym (same refl))
not_now false true true same = refl
not_now false true false same = refl
not_now false false true same = refl
not_now false false false same = refl

due_step : (left : ℕ) (others others' past : List Key) (p : Key) (ps : List Key) → Joins p others others'
    → due (suc left) others past (p ∷ ps) ≡ found (suc left) others past p + due left others' past ps
due_step zero others others' [] p ps h = let e : ◌≡◌ {A = ℕ} (cond (holds p others) 0 0) 0 = either_none (holds p others) in omega (arith, e)
due_step (suc left) others others' [] p ps h = let e : ◌≡◌ {A = ℕ} (cond (holds p others) 0 0) 0 = either_none (holds p others) in omega (arith, e)
due_step zero others others' (q ∷ qs) p ps h =
    let back : comes_back 1 q (p ∷ ps) ≡ cond (is_page p q) true false = back_step 0 q p ps ∙ ap (λ (b : Bool). cond (is_page p q) true b) (back_none q ps) in
    let now : ◌≡◌ {A = ℕ} (cond (holds q others) 0 (one (comes_back 1 q (p ∷ ps)))) (cond (holds p others) 0 (one (cond (is_page p q) true false))) =
    ap (λ (b : Bool). let n : ℕ = cond (holds q others) 0 (one b) in n) back ∙ not_now (is_page p q) (holds q others) (holds p others) (same_held p q others) in
    omega (arith, now)
due_step (suc left) others others' (q ∷ qs) p ps h =
    let among : holds q others' ≡ cond (is_page p q) true (holds q others) = h q ∙ ap (λ (b : Bool). cond b true (holds q others)) (turned q p) in
    let back : ◌≡◌ {A = ℕ} (cond (holds q others) 0 (one (comes_back (suc (suc left)) q (p ∷ ps)))) (cond (holds q others) 0 (one (cond (is_page p q) true (comes_back (suc left) q ps)))) =
    ap (λ (b : Bool). let n : ℕ = cond (holds q others) 0 (one b) in n) (back_step (suc left) q p ps) in
    let later = due_step left (q ∷ others) (q ∷ others') qs p ps (joins_more p q others others' h) in
    let all = due_one (is_page p q) (holds q others) (holds p others) (comes_back (suc left) q ps) (holds p (take (suc left) qs)) (same_held p q others) in
    let here : ◌≡◌ {A = ℕ} (cond (holds q others') 0 (one (comes_back (suc left) q ps))) (cond (cond (is_page p q) true (holds q others)) 0 (one (comes_back (suc left) q ps))) =
    ap (λ (b : Bool). let n : ℕ = cond b 0 (one (comes_back (suc left) q ps)) in n) among in
    omega (arith, back, later, all, here)

found_is : (window : ℕ) (past string : List Key) → found_from window past string ≡ due window [] past string + returning window string
found_is window past [] = sym (ap (λ n. n + 0) (due_end window [] past))
found_is zero past (p ∷ ps) =
    let later = found_is zero (p ∷ past) ps in
    let none : ◌≡◌ {A = ℕ} (one (comes_back 0 p ps)) 0 = ap one (back_none p ps) in
    omega (arith, later, none)
found_is (suc window) past (p ∷ ps) =
    let later = found_is (suc window) (p ∷ past) ps in
    let step = due_step window [] (p ∷ []) past p ps (alone p) in
    omega (arith, later, step)

pub misses_are : (window : ℕ) (string : List Key) → set_misses window string + returning window string ≡ length string
unfolding set_misses
misses_are window string =
    let all = missing_found window [] string in
    let those = found_is window [] string in
    let none : due window [] [] string ≡ 0 = nothing window in
    omega (arith, all, those, none)
  where
    nothing : (window : ℕ) → due window [] [] string ≡ 0
    nothing zero = refl
    nothing (suc window) = refl

-- ---- counted by next uses

abbrev pub below_uses : ℕ → List ℕ → ℕ
below_uses window [] = 0
below_uses window (u ∷ us) = one (nat_lt u window) + below_uses window us

abbrev pub again_uses : ℕ → List ℕ → ℕ
again_uses window [] = 0
again_uses window (u ∷ us) = one (nat_lt u window && nat_lt u (length us)) + again_uses window us

at_least_or_below : (m n : ℕ) → ◌≡◌ {A = ℕ} (one (nat_le m n) + one (nat_lt n m)) 1
at_least_or_below m n = by (nat_lt n m) (other m n)
  where
    other : (m n : ℕ) → nat_le m n ≡ cond (nat_lt n m) false true
    other m n = grind (arith, nat_tests)

    by : (b : Bool) → nat_le m n ≡ cond b false true → ◌≡◌ {A = ℕ} (one (nat_le m n) + one b) 1
    by true h = ap (λ (x : Bool). one x + 1) h
    by false h = ap (λ (x : Bool). one x + 0) h

reaching_below : (window : ℕ) (string : List Key) → reaching window string + below_uses window (next_uses string) ≡ length string
reaching_below window [] = refl
reaching_below window (p ∷ ps) =
    let now = at_least_or_below window (next_use p ps) in
    let later = reaching_below window ps in
    omega (arith, now, later)

returning_is : (window : ℕ) (string : List Key) → returning window string ≡ again_uses window (next_uses string)
returning_is window [] = refl
returning_is window (p ∷ ps) =
    (λ i. one (nat_lt (next_use p ps) window && nat_lt (next_use p ps) (sym (length_uses ps) i)) + returning_is window ps i)

use_within : (p : Key) (ps : List Key) → next_use p ps ≤ length ps
use_within p [] = omega arith
use_within p (q ∷ qs) = either (is_page q p) (next_use p qs) (length qs) (use_within p qs)
  where
    either : (b : Bool) (n l : ℕ) → n ≤ l → cond b 0 (suc n) ≤ suc l
    either true n l h = omega arith
    either false n l h = omega (arith, h)

pub inside_uses : (string : List Key) → Inside (next_uses string)
inside_uses [] = tt {0}
inside_uses (p ∷ ps) = (subst (λ n. next_use p ps ≤ n) (sym (length_uses ps)) (use_within p ps), inside_uses ps)

pub inside_at : (us : List ℕ) (i : ℕ) → Inside us → i < length us → slice_index_or us i 0 < length us
inside_at [] i h some = absurd (omega (arith, some))
inside_at (u ∷ us) zero h some = let e : u ≤ length us = h.0 in omega (arith, e)
inside_at (u ∷ us) (suc i) h some = let e = inside_at us i h.1 (omega (arith, some)) in omega (arith, e)

-- one next use after another
pub record Tallies (f : ℕ → List ℕ → ℕ) (at : ℕ) (counts uses : List ℕ) : Type 0 where
  pub size : length counts ≡ length uses
  pub few : Few at counts
  pub within : (m : ℕ) → hits_within m counts + f m (drop at uses) ≡ f m uses

few_zero : (n : ℕ) → Few 0 (replicate n 0)
few_zero zero = tt {0}
few_zero (suc n) = (omega arith, few_zero n)

none_zero : (m n : ℕ) → hits_within m (replicate n 0) ≡ 0
none_zero zero n = refl
none_zero (suc m) zero = refl
none_zero (suc m) (suc n) = let rest = none_zero m n in omega (arith, rest)

pub tally_opens : (f : ℕ → List ℕ → ℕ) (n : ℕ) (counts uses : List ℕ) → n ≡ length uses → counts ≡ replicate n 0 → Tallies f 0 counts uses
tally_opens f n counts uses size is = record {
  size = ap length is ∙ length-replicate n 0 ∙ size;
  few = subst (Few 0) (sym is) (few_zero n);
  within = λ m. let none : hits_within m counts ≡ 0 = ap (hits_within m) is ∙ none_zero m n in omega (arith, none);
}

at_front : (us : List ℕ) (i : ℕ) → i < length us → drop i us ≡ slice_index_or us i 0 ∷ drop (i + 1) us
at_front us i h = at us i h ∙ ap (λ n. slice_index_or us i 0 ∷ drop n us) (one_on i)
  where
    one_on : (i : ℕ) → suc i ≡ i + 1
    one_on i = omega arith

    at : (us : List ℕ) (i : ℕ) → i < length us → drop i us ≡ slice_index_or us i 0 ∷ drop (suc i) us
    at [] i h = absurd (omega (arith, h))
    at (u ∷ us) zero h = refl
    at (u ∷ us) (suc i) h = at us i (omega (arith, h))

pub tally_below : (at : ℕ) (counts counts' uses : List ℕ) → at < length uses → Inside uses → counts' ≡ noted (slice_index_or uses at 0) counts → Tallies below_uses at counts uses → Tallies below_uses (at + 1) counts' uses
tally_below at counts counts' uses some inside is before =
    let u : ℕ = slice_index_or uses at 0 in
    let low : u < length uses = inside_at uses at inside some in
    record {
      size = ap length is ∙ length_noted u counts ∙ before.size;
      few = subst (Few (at + 1)) (sym is) (few_noted at u counts before.few);
      within = λ m.
          let old = before.within m in
          let front : below_uses m (drop at uses) ≡ one (nat_lt u m) + below_uses m (drop (at + 1) uses) = ap (below_uses m) (at_front uses at some) in
          let size = before.size in
          let new : hits_within m counts' ≡ hits_within m counts + cond (nat_lt u m) 1 0 = ap (hits_within m) is ∙ noted_within m u counts (omega (arith, low, size)) in
          omega (arith, old, front, new);
    }

length_left : (us : List ℕ) (i : ℕ) → length (drop i us) ≡ length us - i
length_left us zero = let e : ◌≡◌ {A = ℕ} (length (drop 0 us)) (length us) = refl in omega (arith, e)
length_left [] (suc i) = omega arith
length_left (u ∷ us) (suc i) = let rest = length_left us i in omega (arith, rest)

noted_if : (b : Bool) (m u : ℕ) (counts : List ℕ) → u < length counts → hits_within m (cond b (noted u counts) counts) ≡ hits_within m counts + one (nat_lt u m && b)
noted_if true m u counts h = noted_within m u counts h ∙ ap (λ (x : Bool). hits_within m counts + one x) (sym (and_true (nat_lt u m)))
  where
    and_true : (b : Bool) → (b && true) ≡ b
    and_true true = refl
    and_true false = refl
noted_if false m u counts h = let e : ◌≡◌ {A = ℕ} (one (nat_lt u m && false)) 0 = ap one (both_false (nat_lt u m)) in omega (arith, e)

pub size_if : (b : Bool) (u : ℕ) (counts : List ℕ) → length (cond b (noted u counts) counts) ≡ length counts
size_if true u counts = length_noted u counts
size_if false u counts = refl

few_if : (b : Bool) (n u : ℕ) (counts : List ℕ) → Few n counts → Few (n + 1) (cond b (noted u counts) counts)
few_if true n u counts h = few_noted n u counts h
few_if false n u counts h = few_more n counts h

pub tally_again : (at left : ℕ) (counts counts' uses : List ℕ) → at < length uses → Inside uses → left ≡ length uses - 1 - at → counts' ≡ cond (nat_lt (slice_index_or uses at 0) left) (noted (slice_index_or uses at 0) counts) counts
    → Tallies again_uses at counts uses → Tallies again_uses (at + 1) counts' uses
tally_again at left counts counts' uses some inside rest is before =
    let u : ℕ = slice_index_or uses at 0 in
    let low : u < length uses = inside_at uses at inside some in
    let behind : length (drop (at + 1) uses) ≡ left = let e = length_left uses (at + 1) in omega (arith, e, rest) in
    record {
      size = ap length is ∙ size_if (nat_lt u left) u counts ∙ before.size;
      few = subst (Few (at + 1)) (sym is) (few_if (nat_lt u left) at u counts before.few);
      within = λ m.
          let old = before.within m in
          let front : again_uses m (drop at uses) ≡ one (nat_lt u m && nat_lt u left) + again_uses m (drop (at + 1) uses) =
          ap (again_uses m) (at_front uses at some) ∙ ap (λ n. one (nat_lt u m && nat_lt u n) + again_uses m (drop (at + 1) uses)) behind in
          let size = before.size in
          let new : hits_within m counts' ≡ hits_within m counts + one (nat_lt u m && nat_lt u left) = ap (hits_within m) is ∙ noted_if (nat_lt u left) m u counts (omega (arith, low, size)) in
          omega (arith, old, front, new);
    }

past_end : (us : List ℕ) (i : ℕ) → length us ≤ i → drop i us ≡ []
past_end [] zero h = refl
past_end [] (suc i) h = refl
past_end (u ∷ us) zero h = absurd (omega (arith, h))
past_end (u ∷ us) (suc i) h = past_end us i (omega (arith, h))

pub tally_ahead : (at : ℕ) (counts uses : List ℕ) (string : List Key) → length uses ≤ at → uses ≡ next_uses string → Tallies below_uses at counts uses → IsAhead counts string
tally_ahead at counts uses string over is all = record {
  size = all.size ∙ ap length is ∙ length_uses string;
  within = λ m.
      let sum = all.within m in
      let none : below_uses m (drop at uses) ≡ 0 = ap (below_uses m) (past_end uses at over) in
      let both = reaching_below m string in
      let same : below_uses m uses ≡ below_uses m (next_uses string) = ap (below_uses m) is in
      omega (arith, sum, none, both, same);
}

pub tally_returning : (at : ℕ) (counts uses : List ℕ) (string : List Key) → length uses ≤ at → uses ≡ next_uses string → Tallies again_uses at counts uses → IsReturning counts string
tally_returning at counts uses string over is all = record {
  size = all.size ∙ ap length is ∙ length_uses string;
  within = λ m.
      let sum = all.within m in
      let none : again_uses m (drop at uses) ≡ 0 = ap (again_uses m) (past_end uses at over) in
      let those = returning_is m string in
      let same : again_uses m uses ≡ again_uses m (next_uses string) = ap (again_uses m) is in
      omega (arith, sum, none, those, same);
}

-- ---- a curve, window after window

-- what is known after so many windows
pub record Counted (window sizes below found : ℕ) (curve : List WindowCounts) (ahead again : List ℕ) (string : List Key) : Type 0 where
  pub below_is : below ≡ hits_within window ahead
  pub found_is : found ≡ hits_within window again
  pub sizes_is : sizes ≡ at_most_word (set_sizes window string)
  pub many : length curve ≡ window
  pub each : (k : ℕ) → k < window → slice_get curve k ≡ Some (counts_of (k + 1) string)

pub counted_opens : (curve : List WindowCounts) (ahead again : List ℕ) (string : List Key) → curve ≡ [] → Counted 0 0 0 0 curve ahead again string
counted_opens curve ahead again string is = record {
  below_is = refl;
  found_is = refl;
  sizes_is = sym (ap at_most_word (sizes_open string));
  many = ap length is;
  each = λ k h. absurd (omega (arith, h));
}

within_more : (m : ℕ) (counts : List ℕ) → hits_within (m + 1) counts ≡ hits_within m counts + slice_index_or counts m 0
within_more m counts = ap (λ n. hits_within n counts) (one_on m) ∙ by m counts
  where
    one_on : (m : ℕ) → m + 1 ≡ suc m
    one_on m = omega arith

    nothing : (m : ℕ) → hits_within m [] ≡ 0
    nothing zero = refl
    nothing (suc m) = refl

    by : (m : ℕ) (counts : List ℕ) → hits_within (suc m) counts ≡ hits_within m counts + slice_index_or counts m 0
    by zero [] = refl
    by (suc m) [] = refl
    by zero (n ∷ ns) = omega arith
    by (suc m) (n ∷ ns) = let e = by m ns in omega (arith, e)

kept_small : (n : ℕ) → n < 2 ^ 63 → min n 18446744073709551615 ≡ n
kept_small n h = grind (arith, h)

added_word : (a b : ℕ) → min (min a 18446744073709551615 + b) 18446744073709551615 ≡ min (a + b) 18446744073709551615
added_word a b = grind arith

got_behind : {A : Type 0} (xs : List A) (x : A) (k : ℕ) → k ≡ length xs → slice_get (xs ++ x ∷ []) k ≡ Some x
got_behind [] x k is = ap (slice_get (x ∷ [])) is
got_behind (y ∷ ys) x zero is = absurd (omega (arith, is))
got_behind (y ∷ ys) x (suc k) is = got_behind ys x k (omega (arith, is))

got_before : {A : Type 0} (xs : List A) (x : A) (k : ℕ) → k < length xs → slice_get (xs ++ x ∷ []) k ≡ slice_get xs k
got_before [] x k h = absurd (omega (arith, h))
got_before (y ∷ ys) x zero h = refl
got_before (y ∷ ys) x (suc k) h = got_before ys x k (omega (arith, h))

pub counted_on : (window sizes sizes' below below' found found' misses : ℕ) (curve curve' : List WindowCounts) (ahead again : List ℕ) (string : List Key)
    → length ahead < 2 ^ 63 → IsAhead ahead string → IsReturning again string → Counted window sizes below found curve ahead again string
    → sizes' ≡ min (sizes + (length ahead - below)) 18446744073709551615 → below' ≡ min (below + slice_index_or ahead window 0) 18446744073709551615
    → found' ≡ min (found + slice_index_or again window 0) 18446744073709551615 → misses ≡ length ahead - found'
    → curve' ≡ curve ++ record { sizes = sizes'; misses = misses } ∷ [] → Counted (window + 1) sizes' below' found' curve' ahead again string
counted_on window sizes sizes' below below' found found' misses curve curve' ahead again string small tells brings before more_sizes more_below more_found missing is =
    let long = tells.size in
    let sum = tells.within window in
    let sum_on = tells.within (window + 1) in
    let back_on = brings.within (window + 1) in
    let all_back = misses_are (window + 1) string in
    let below_was = before.below_is in
    let found_was = before.found_is in
    let low : hits_within (window + 1) ahead ≡ hits_within window ahead + slice_index_or ahead window 0 = within_more window ahead in
    let high : hits_within (window + 1) again ≡ hits_within window again + slice_index_or again window 0 = within_more window again in
    let below_now : below' ≡ hits_within (window + 1) ahead = more_below ∙ kept_small _ (omega (arith, low, below_was, sum_on, long, small)) ∙ omega (arith, low, below_was) in
    let found_now : found' ≡ hits_within (window + 1) again = more_found ∙ kept_small _ (omega (arith, high, found_was, back_on, all_back, long, small)) ∙ omega (arith, high, found_was) in
    let grown : set_sizes (window + 1) string ≡ set_sizes window string + reaching window string = ap (λ n. set_sizes n string) (one_on window) ∙ sizes_grow window string in
    let reach : length ahead - below ≡ reaching window string = omega (arith, sum, below_was, long) in
    let sizes_now : sizes' ≡ at_most_word (set_sizes (window + 1) string) =
    more_sizes ∙ (λ i. min (before.sizes_is i + reach i) 18446744073709551615) ∙ added_word (set_sizes window string) (reaching window string) ∙ ap at_most_word (sym grown) in
    let misses_now : misses ≡ set_misses (window + 1) string = omega (arith, missing, found_now, back_on, all_back, long) in
    let row : ◌≡◌ {A = WindowCounts} (record { sizes = sizes'; misses = misses }) (counts_of (window + 1) string) = λ i. record { sizes = sizes_now i; misses = misses_now i } in
    record {
      below_is = below_now;
      found_is = found_now;
      sizes_is = sizes_now;
      many = ap length is ∙ length_new curve (record { sizes = sizes'; misses = misses }) ∙ (let e = before.many in omega (arith, e));
      each = λ k h.
          ap (λ (l : List WindowCounts). slice_get l k) is ∙ by_place k (nat_lt k window) refl h row;
    }
  where
    one_on : (m : ℕ) → m + 1 ≡ suc m
    one_on m = omega arith

    low_place : (k w : ℕ) → nat_lt k w ≡ true → k < w
    low_place k w h = grind (arith, nat_tests, h)

    high_place : (k w : ℕ) → nat_lt k w ≡ false → w ≤ k
    high_place k w h = grind (arith, nat_tests, h)

    by_place : (k : ℕ) (b : Bool) → nat_lt k window ≡ b → k < window + 1 → ◌≡◌ {A = WindowCounts} (record { sizes = sizes'; misses = misses }) (counts_of (window + 1) string)
        → slice_get (curve ++ record { sizes = sizes'; misses = misses } ∷ []) k ≡ Some (counts_of (k + 1) string)
    by_place k true is h row =
        let size = before.many in
        let low = low_place k window is in got_before curve (record { sizes = sizes'; misses = misses }) k (omega (arith, size, low)) ∙ before.each k low
    by_place k false is h row =
        let size = before.many in
        let high = high_place k window is in
        let at : k ≡ window = omega (arith, high, h) in
        got_behind curve (record { sizes = sizes'; misses = misses }) k (omega (arith, size, at)) ∙ ap Some row ∙ ap (λ n. Some (counts_of (n + 1) string)) (sym at)

pub counted_curve : (window sizes below found : ℕ) (curve : List WindowCounts) (ahead again : List ℕ) (string : List Key) → window ≡ length ahead → IsAhead ahead string
    → Counted window sizes below found curve ahead again string → IsWindowCurve curve string
counted_curve window sizes below found curve ahead again string end tells all = record {
  whole = all.many ∙ end ∙ tells.size;
  each = λ k h. let size = tells.size in all.each k (omega (arith, h, end, size));
}
