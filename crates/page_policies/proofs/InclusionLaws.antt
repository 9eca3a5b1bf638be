-- LRU has the inclusion property, and never misses more with more frames: proofs.
use Rattle.std.specs.Prelude.{◌≡◌, ℕ, zero, suc, ◌≤◌, Bool, true, false, cond, List, [], ◌∷◌, take, refl}
use Rattle.std.proofs.Common.{arith, sym, ap, ◌∙◌}
use Rattle.clock_policy.specs.declared.key.Key.{Key}
use Rattle.page_policies.specs.Strings.{is_page, holds, without, misses}
use Rattle.page_policies.specs.Queues.{lru, lru_misses}
use Rattle.page_policies.specs.Inclusion.{lru_leaves, Inclusion, MissesNoMore}

-- The pages by their last use, without a bound: what n frames hold are its first n.

abbrev stacked : Key → List Key → List Key
stacked p s = p ∷ without p s

cut_without : (n : ℕ) (p : Key) (s : List Key) → take n (without p (take (suc n) s)) ≡ take n (without p s)
cut_without zero p s = refl
cut_without (suc n) p [] = refl
cut_without (suc n) p (q ∷ qs) =
    elim (is_page p q) as (λ t. take (suc n) (cond t (take (suc n) qs) (q ∷ without p (take (suc n) qs))) ≡ take (suc n) (cond t qs (q ∷ without p qs))) [
      | true ↦ cut (suc n) qs
      | false ↦ ap (λ (l : List Key). q ∷ l) (cut_without n p qs)
    ]
  where
    cut : (n : ℕ) (s : List Key) → take n (take n s) ≡ take n s
    cut zero s = refl
    cut (suc n) [] = refl
    cut (suc n) (q ∷ qs) = ap (λ (l : List Key). q ∷ l) (cut n qs)

pub cut_step : (n : ℕ) (p : Key) (s : List Key) → lru n p (take n s) ≡ take n (stacked p s)
cut_step zero p s = refl
cut_step (suc n) p s = ap (λ (l : List Key). p ∷ l) (cut_without n p s)

held_more : (few many : ℕ) (p : Key) (s : List Key) → few ≤ many → holds p (take few s) ≡ true → holds p (take many s) ≡ true
held_more zero many p s h there = cc
held_more (suc few) zero p s h there = absurd (omega (arith, h))
held_more (suc few) (suc many) p [] h there = there
held_more (suc few) (suc many) p (q ∷ qs) h there =
    elim (is_page p q) as (λ t. cond t true (holds p (take few qs)) ≡ true → cond t true (holds p (take many qs)) ≡ true) [
      | true ↦ λ g. refl
      | false ↦ λ g. held_more few many p qs (omega (arith, h)) g
    ] there

less : (few many : ℕ) (p : Key) (s : List Key) → few ≤ many → cond (holds p (take many s)) 0 1 ≤ cond (holds p (take few s)) 0 1
less few many p s h =
    elim (holds p (take few s)) as (λ t. holds p (take few s) ≡ t → cond (holds p (take many s)) 0 1 ≤ cond t 0 1) [
      | true ↦ λ is. rw (held_more few many p s h is) (omega arith)
      | false ↦ λ is. one (holds p (take many s))
    ] refl
  where
    one : (t : Bool) → cond t 0 1 ≤ 1
    one true = omega arith
    one false = omega arith

from_stack : (few many : ℕ) (s string : List Key) → few ≤ many → misses holds (lru many) (take many s) string ≤ misses holds (lru few) (take few s) string
from_stack few many s [] h = omega arith
from_stack few many s (p ∷ ps) h =
    let now : cond (holds p (take many s)) 0 1 ≤ cond (holds p (take few s)) 0 1 = less few many p s h in
    let later : misses holds (lru many) (take many (stacked p s)) ps ≤ misses holds (lru few) (take few (stacked p s)) ps = from_stack few many (stacked p s) ps h in
    let big : misses holds (lru many) (lru many p (take many s)) ps ≡ misses holds (lru many) (take many (stacked p s)) ps = ap (λ (l : List Key). misses holds (lru many) l ps) (cut_step many p s) in
    let small : misses holds (lru few) (lru few p (take few s)) ps ≡ misses holds (lru few) (take few (stacked p s)) ps = ap (λ (l : List Key). misses holds (lru few) l ps) (cut_step few p s) in
    omega (arith, now, later, big, small)

pub nothing : (n : ℕ) → take n (let none : List Key = [] in none) ≡ []
nothing zero = refl
nothing (suc n) = refl

-- what n frames hold once a string was served are the first n pages by their last use
abbrev restacked : List Key → List Key → List Key
restacked s [] = s
restacked s (p ∷ ps) = restacked (stacked p s) ps

left_first : (n : ℕ) (s string : List Key) → lru_leaves n (take n s) string ≡ take n (restacked s string)
left_first n s [] = refl
left_first n s (p ∷ ps) = ap (λ (l : List Key). lru_leaves n l ps) (cut_step n p s) ∙ left_first n (stacked p s) ps

left_empty : (n : ℕ) (string : List Key) → lru_leaves n [] string ≡ take n (restacked [] string)
left_empty n string = ap (λ (l : List Key). lru_leaves n l string) (sym (nothing n)) ∙ left_first n [] string

pub inclusion : Inclusion
inclusion few many string page h there =
    let small : holds page (take few (restacked [] string)) ≡ true = ap (holds page) (sym (left_empty few string)) ∙ there in
    ap (holds page) (left_empty many string) ∙ held_more few many page (restacked [] string) h small

pub lru_misses_no_more : MissesNoMore 0 lru_misses
unfolding lru_misses
lru_misses_no_more few many string least h =
    let e : misses holds (lru many) (take many []) string ≤ misses holds (lru few) (take few []) string = from_stack few many [] string h in
    rw (nothing many, nothing few) at e
