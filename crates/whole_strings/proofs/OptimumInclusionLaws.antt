-- What the optimum has in more frames: proofs.
use Rattle.std.specs.Prelude.{◌≡◌, ℕ, zero, suc, ◌+◌, ◌<◌, ◌≤◌, Bool, true, false, cond, nat_lt, List, [], ◌∷◌, ◌++◌, take, length, refl}
use Rattle.std.proofs.Common.{arith}
use Rattle.clock_policy.specs.declared.key.Key.{Key}
use Rattle.page_policies.specs.Strings.{is_page, holds}
use Rattle.page_policies.specs.Optimal.{next_use, room_for}
use Rattle.page_policies.specs.Demand.{number}
use Rattle.page_policies.proofs.CountLaws.{near, none_number, some_number}
use Rattle.page_policies.proofs.NumberLaws.{less, most}
use Rattle.whole_strings.specs.NextPlaces.{under, place}
use Rattle.whole_strings.proofs.NextPlaceLaws.{under_more}
use Rattle.whole_strings.proofs.PlaceStepLaws.{Stands, next_once}
use Rattle.whole_strings.specs.OptimumStack.{place_depth, restacked}
use Rattle.whole_strings.specs.OptimumInclusion.{optimum_leaves, OptimumInclusion}
use Rattle.whole_strings.proofs.LruDepthLaws.{flip_page}
use Rattle.whole_strings.proofs.OptimumStepLaws.{hit_there, hit_stands, miss_gone, miss_stands}

-- with each number of frames the first places of the stack are those of the pages
record Stacked (at n : ℕ) (stack : List ℕ) (rest : List Key) (pages : ℕ → List Key) : Type 0 where
  pub each : (j : ℕ) → Stands (suc j) at n (take (suc j) stack) rest (pages (suc j))

stacked_on : (at n : ℕ) (p : Key) (ps : List Key) (stack : List ℕ) (pages : ℕ → List Key) → n ≡ at + suc (length ps) → Stacked at n stack (p ∷ ps) pages
    → Stacked (at + 1) n (restacked at (place n at (next_use p ps)) stack) ps (λ m. cond (holds p (pages m)) (pages m) (p ∷ room_for m ps (pages m)))
stacked_on at n p ps stack pages is before = record { each = λ j. by_depth j (nat_lt (place_depth at stack) (length (take (suc j) stack))) refl }
  where
    cut_few : (m : ℕ) (s : List ℕ) → length (take m s) ≤ m
    cut_few zero s = omega arith
    cut_few (suc m) [] = omega arith
    cut_few (suc m) (y ∷ ys) = let e : length (take m ys) ≤ m = cut_few m ys in omega (arith, e)

    cut_short : (m : ℕ) (s : List ℕ) → length (take m s) ≤ length s
    cut_short zero s = omega arith
    cut_short (suc m) [] = omega arith
    cut_short (suc m) (y ∷ ys) = let e : length (take m ys) ≤ length ys = cut_short m ys in omega (arith, e)

    by_depth : (j : ℕ) (b : Bool) → nat_lt (place_depth at stack) (length (take (suc j) stack)) ≡ b
        → Stands (suc j) (at + 1) n (take (suc j) (restacked at (place n at (next_use p ps)) stack)) ps (cond (holds p (pages (suc j))) (pages (suc j)) (p ∷ room_for (suc j) ps (pages (suc j))))
    by_depth j true e =
        let inside : place_depth at stack < length (take (suc j) stack) = less (place_depth at stack) (length (take (suc j) stack)) e in
        let few : length (take (suc j) stack) ≤ suc j = cut_few (suc j) stack in
        let short : length (take (suc j) stack) ≤ length stack = cut_short (suc j) stack in
        let h : place_depth at stack < suc j = omega (arith, inside, few) in
        let g : place_depth at stack < length stack = omega (arith, inside, short) in
        rw (hit_there j at n p ps stack (pages (suc j)) h g (before.each j)) (hit_stands j at n (place n at (next_use p ps)) p ps stack (pages (suc j)) is refl h g (before.each j))
    by_depth j false e =
        let h : length (take (suc j) stack) ≤ place_depth at stack = most (place_depth at stack) (length (take (suc j) stack)) e in
        rw (miss_gone j at n p ps stack (pages (suc j)) h (before.each j)) (miss_stands j at n (place n at (next_use p ps)) p ps stack (pages (suc j)) is refl h (before.each j))

record Reached (n : ℕ) (rest : List Key) (pages : ℕ → List Key) : Type 0 where
  pub at : ℕ
  pub stack : List ℕ
  pub stacked : Stacked at n stack rest pages

reached : (served rest : List Key) (at n : ℕ) (stack : List ℕ) (pages : ℕ → List Key) → n ≡ at + length (served ++ rest) → Stacked at n stack (served ++ rest) pages → Reached n rest (λ m. optimum_leaves m (pages m) served rest)
reached [] rest at n stack pages is before = record { at = at; stack = stack; stacked = before }
reached (p ∷ ps) rest at n stack pages is before = reached ps rest (at + 1) n (restacked at (place n at (next_use p (ps ++ rest))) stack) (λ m. cond (holds p (pages m)) (pages m) (p ∷ room_for m (ps ++ rest) (pages m))) (omega (arith, is))
    (stacked_on at n p (ps ++ rest) stack pages is before)

stacked_open : (n : ℕ) (string : List Key) → Stacked 0 n [] string (λ m. [])
stacked_open n string = record { each = λ j. record { once = λ q. omega arith; few = omega arith; size = refl; near_by = λ t x e few. refl; past = refl } }

-- of the first places of the stack no fewer are a given one where there are more of them
count_more : (few many x : ℕ) (s : List ℕ) → few ≤ many → under (suc x) (take few s) + under x (take many s) ≤ under (suc x) (take many s) + under x (take few s)
count_more zero many x s h = let e : under x (take many s) ≤ under (suc x) (take many s) = under_more x (take many s) in omega (arith, e)
count_more (suc few) zero x s h = absurd (omega (arith, h))
count_more (suc few) (suc many) x [] h = omega arith
count_more (suc few) (suc many) x (y ∷ ys) h = let later : under (suc x) (take few ys) + under x (take many ys) ≤ under (suc x) (take many ys) + under x (take few ys) = count_more few many x ys (omega (arith, h)) in omega (arith, later)

used_before : (p : Key) (string : List Key) → holds p string ≡ true → next_use p string < length string
used_before p [] h = cc
used_before p (q ∷ qs) h = rw (flip_page q p) (elim (is_page p q) as (λ b. cond b true (holds p qs) ≡ true → cond b 0 (suc (next_use p qs)) < suc (length qs)) [
  | true ↦ λ g. omega arith
  | false ↦ λ g. let e : next_use p qs < length qs = used_before p qs g in omega (arith, e)
] h)

pub optimum_inclusion : OptimumInclusion
optimum_inclusion few many served rest page some more used there =
    let r : Reached (length (served ++ rest)) rest (λ m. optimum_leaves m [] served rest) = reached served rest 0 (length (served ++ rest)) [] (λ m. []) (omega arith) (stacked_open (length (served ++ rest)) (served ++ rest)) in
    by_frames few many r some more there
  where
    -- how often the page is in m frames
    number_is : (m : ℕ) (r : Reached (length (served ++ rest)) rest (λ m. optimum_leaves m [] served rest)) → 1 ≤ m
        → number (is_page page) (optimum_leaves m [] served rest) + under (r.at + next_use page rest) (take m r.stack) ≡ under (suc (r.at + next_use page rest)) (take m r.stack)
    number_is zero r h = absurd (omega (arith, h))
    number_is (suc j) r h =
        let inside : next_use page rest < length rest = used_before page rest used in
        let now : under (r.at + next_use page rest) (take (suc j) r.stack) ≡ near rest (next_use page rest) (optimum_leaves (suc j) [] served rest) = (r.stacked.each j).near_by (next_use page rest) (r.at + next_use page rest) refl (omega (arith, inside)) in
        let next : under (suc (r.at + next_use page rest)) (take (suc j) r.stack) ≡ near rest (suc (next_use page rest)) (optimum_leaves (suc j) [] served rest) = (r.stacked.each j).near_by (suc (next_use page rest)) (suc (r.at + next_use page rest)) (omega arith) (omega (arith, inside)) in
        let one_more : near rest (suc (next_use page rest)) (optimum_leaves (suc j) [] served rest) ≡ near rest (next_use page rest) (optimum_leaves (suc j) [] served rest) + number (is_page page) (optimum_leaves (suc j) [] served rest) = next_once page rest (optimum_leaves (suc j) [] served rest) inside in
        omega (arith, now, next, one_more)

    found : (b : Bool) (s : List Key) → holds page s ≡ b → 1 ≤ number (is_page page) s → holds page s ≡ true
    found true s e h = e
    found false s e h = let none : number (is_page page) s ≡ 0 = none_number page s e in absurd (omega (arith, none, h))

    by_frames : (few many : ℕ) (r : Reached (length (served ++ rest)) rest (λ m. optimum_leaves m [] served rest)) → 1 ≤ few → few ≤ many → holds page (optimum_leaves few [] served rest) ≡ true → holds page (optimum_leaves many [] served rest) ≡ true
    by_frames few many r some more there =
        let in_few : number (is_page page) (optimum_leaves few [] served rest) + under (r.at + next_use page rest) (take few r.stack) ≡ under (suc (r.at + next_use page rest)) (take few r.stack) = number_is few r some in
        let in_many : number (is_page page) (optimum_leaves many [] served rest) + under (r.at + next_use page rest) (take many r.stack) ≡ under (suc (r.at + next_use page rest)) (take many r.stack) = number_is many r (omega (arith, some, more)) in
        let counts : under (suc (r.at + next_use page rest)) (take few r.stack) + under (r.at + next_use page rest) (take many r.stack) ≤ under (suc (r.at + next_use page rest)) (take many r.stack) + under (r.at + next_use page rest) (take few r.stack) = count_more few many (r.at + next_use page rest) r.stack more in
        let one_there : 1 ≤ number (is_page page) (optimum_leaves few [] served rest) = some_number page (optimum_leaves few [] served rest) there in
        found (holds page (optimum_leaves many [] served rest)) (optimum_leaves many [] served rest) refl (omega (arith, in_few, in_many, counts, one_there))
