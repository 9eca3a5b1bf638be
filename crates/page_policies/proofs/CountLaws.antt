-- Pages counted by the distance of their next use: all that the optimum and any other play are told apart by.
use Rattle.std.specs.Prelude.{◌≡◌, ℕ, suc, ◌+◌, ◌-◌, ◌<◌, ◌≤◌, Bool, true, false, cond, nat_lt, List, [], ◌∷◌, length, refl}
use Rattle.std.proofs.Common.{arith, sym, ap}
use Rattle.std.proofs.lemmas.Bool.Decides.{nat_tests}
use Rattle.clock_policy.specs.declared.key.Key.{Key}
use Rattle.page_policies.specs.Strings.{is_page, holds}
use Rattle.page_policies.proofs.QueueLaws.{same}
use Rattle.page_policies.specs.Optimal.{next_use, but_farthest, room_for}
use Rattle.page_policies.specs.Demand.{number}

-- whether the page's next use is nearer than so far
abbrev pub is_near : List Key → ℕ → Key → Bool
is_near string t q = nat_lt (next_use q string) t

-- how many of the pages are
abbrev pub near : List Key → ℕ → List Key → ℕ
near string t s = number (is_near string t) s

pub number_few : (test : Key → Bool) (s : List Key) → number test s ≤ length s
number_few test [] = omega arith
number_few test (q ∷ qs) =
    let later : number test qs ≤ length qs = number_few test qs in
    elim (test q) as (λ b. cond b 1 0 + number test qs ≤ suc (length qs)) [ true ↦ omega (arith, later) | false ↦ omega (arith, later) ]

-- a page that is nowhere is counted nowhere, and one that is there is counted
pub none_number : (p : Key) (s : List Key) → holds p s ≡ false → number (is_page p) s ≡ 0
none_number p [] h = refl
none_number p (q ∷ qs) h = elim (is_page p q) as (λ b. cond b true (holds p qs) ≡ false → cond b 1 0 + number (is_page p) qs ≡ 0) [
  | true ↦ λ g. cc
  | false ↦ λ g. let later : number (is_page p) qs ≡ 0 = none_number p qs g in omega (arith, later)
] h

pub some_number : (p : Key) (s : List Key) → holds p s ≡ true → 1 ≤ number (is_page p) s
some_number p [] h = cc
some_number p (q ∷ qs) h = elim (is_page p q) as (λ b. cond b true (holds p qs) ≡ true → 1 ≤ cond b 1 0 + number (is_page p) qs) [
  | true ↦ λ g. omega arith
  | false ↦ λ g. let later : 1 ≤ number (is_page p) qs = some_number p qs g in omega (arith, later)
] h

-- The distances after a reference, from those before it: only the page itself is farther than before.
pub near_after : (p : Key) (ps : List Key) (t : ℕ) (s : List Key) →
    near ps t s + number (is_page p) s ≡ near (p ∷ ps) (suc t) s + cond (is_near ps t p) (number (is_page p) s) 0
near_after p ps t [] = elim (is_near ps t p) as (λ b. 0 + 0 ≡ 0 + cond b 0 0) [ true ↦ refl | false ↦ refl ]
near_after p ps t (q ∷ qs) =
    let later : near ps t qs + number (is_page p) qs ≡ near (p ∷ ps) (suc t) qs + cond (is_near ps t p) (number (is_page p) qs) 0 = near_after p ps t qs in
    elim (is_page p q) as (λ b. is_page p q ≡ b →
    (cond (is_near ps t q) 1 0 + near ps t qs) + (cond b 1 0 + number (is_page p) qs)
    ≡ (cond (nat_lt (cond b 0 (suc (next_use q ps))) (suc t)) 1 0 + near (p ∷ ps) (suc t) qs) + cond (is_near ps t p) (cond b 1 0 + number (is_page p) qs) 0) [
      | true ↦ λ is. rw (ap (is_near ps t) (sym (same p q is))) (here (is_near ps t p) (nat_lt 0 (suc t)) (below 0 t (omega arith)) (near ps t qs) (number (is_page p) qs) (near (p ∷ ps) (suc t) qs) later)
      | false ↦ λ is. rw (next (next_use q ps) t) (apart (is_near ps t q) (is_near ps t p) (near ps t qs) (number (is_page p) qs) (near (p ∷ ps) (suc t) qs) later)
    ] refl
  where
    below : (a t : ℕ) → a ≤ t → nat_lt a (suc t) ≡ true
    below a t h = grind (arith, nat_tests)

    next : (a t : ℕ) → nat_lt (suc a) (suc t) ≡ nat_lt a t
    next a t = grind (arith, nat_tests)

    here : (b c : Bool) → c ≡ true → (n k m : ℕ) → n + k ≡ m + cond b k 0 → (cond b 1 0 + n) + (1 + k) ≡ (cond c 1 0 + m) + cond b (1 + k) 0
    here true c is n k m h = rw is (omega (arith, h))
    here false c is n k m h = rw is (omega (arith, h))

    apart : (a b : Bool) (n k m : ℕ) → n + k ≡ m + cond b k 0 → (cond a 1 0 + n) + (0 + k) ≡ (cond a 1 0 + m) + cond b (0 + k) 0
    apart true true n k m h = omega (arith, h)
    apart true false n k m h = omega (arith, h)
    apart false true n k m h = omega (arith, h)
    apart false false n k m h = omega (arith, h)

-- Where the farthest leaves, only the count of all pages falls.
pub near_but : (string : List Key) (t : ℕ) (q : Key) (s : List Key) →
    (near string t (q ∷ s) ≤ length s → near string t (but_farthest string q s) ≡ near string t (q ∷ s))
    × (length s < near string t (q ∷ s) → near string t (but_farthest string q s) ≡ length s)
near_but string t q [] = (λ h. sym (zero_of (near string t (q ∷ [])) h), λ h. refl)
  where
    zero_of : (n : ℕ) → n ≤ 0 → n ≡ 0
    zero_of n h = omega arith
near_but string t q (r ∷ s) =
    let few : near string t s ≤ length s = number_few (is_near string t) s in
    elim (nat_lt (next_use q string) (next_use r string)) as (λ b. nat_lt (next_use q string) (next_use r string) ≡ b →
    (cond (is_near string t q) 1 0 + (cond (is_near string t r) 1 0 + near string t s) ≤ suc (length s) → near string t (cond b (q ∷ but_farthest string r s) (r ∷ but_farthest string q s)) ≡ cond (is_near string t q) 1 0 + (cond (is_near string t r) 1 0 + near string t s))
    × (suc (length s) < cond (is_near string t q) 1 0 + (cond (is_near string t r) 1 0 + near string t s) → near string t (cond b (q ∷ but_farthest string r s) (r ∷ but_farthest string q s)) ≡ suc (length s))) [
      | true ↦ λ is. first (is_near string t q) (is_near string t r) (nearer (next_use q string) (next_use r string) t is) (near string t s) (length s) (near string t (but_farthest string r s)) few (near_but string t r s)
      | false ↦ λ is. second (is_near string t q) (is_near string t r) (farther (next_use q string) (next_use r string) t is) (near string t s) (length s) (near string t (but_farthest string q s)) few (near_but string t q s)
    ] refl
  where
    nearer : (a b t : ℕ) → nat_lt a b ≡ true → nat_lt b t ≡ true → nat_lt a t ≡ true
    nearer a b t h g = grind (arith, nat_tests)

    farther : (a b t : ℕ) → nat_lt a b ≡ false → nat_lt a t ≡ true → nat_lt b t ≡ true
    farther a b t h g = grind (arith, nat_tests)

    first : (x y : Bool) → (y ≡ true → x ≡ true) → (n l k : ℕ) → n ≤ l → ((cond y 1 0 + n ≤ l → k ≡ cond y 1 0 + n) × (l < cond y 1 0 + n → k ≡ l)) →
        (cond x 1 0 + (cond y 1 0 + n) ≤ suc l → cond x 1 0 + k ≡ cond x 1 0 + (cond y 1 0 + n)) × (suc l < cond x 1 0 + (cond y 1 0 + n) → cond x 1 0 + k ≡ suc l)
    first true true i n l k few h = (λ g. omega (arith, h.0, h.1), λ g. omega (arith, h.0, h.1))
    first true false i n l k few h = (λ g. omega (arith, h.0, h.1), λ g. omega (arith, h.0, h.1))
    first false true i n l k few h = absurd (no (i refl))
      where
        no : false ≡ true → ⊥
        no e = cc
    first false false i n l k few h = (λ g. omega (arith, h.0, h.1), λ g. omega (arith, h.0, h.1))

    second : (x y : Bool) → (x ≡ true → y ≡ true) → (n l k : ℕ) → n ≤ l → ((cond x 1 0 + n ≤ l → k ≡ cond x 1 0 + n) × (l < cond x 1 0 + n → k ≡ l)) →
        (cond x 1 0 + (cond y 1 0 + n) ≤ suc l → cond y 1 0 + k ≡ cond x 1 0 + (cond y 1 0 + n)) × (suc l < cond x 1 0 + (cond y 1 0 + n) → cond y 1 0 + k ≡ suc l)
    second true true i n l k few h = (λ g. omega (arith, h.0, h.1), λ g. omega (arith, h.0, h.1))
    second false true i n l k few h = (λ g. omega (arith, h.0, h.1), λ g. omega (arith, h.0, h.1))
    second true false i n l k few h = absurd (no (i refl))
      where
        no : false ≡ true → ⊥
        no e = cc
    second false false i n l k few h = (λ g. omega (arith, h.0, h.1), λ g. omega (arith, h.0, h.1))

-- room for one page
pub record Room (m : ℕ) (string s r : List Key) : Type 0 where
  pub few : suc (length r) ≤ m
  pub least : (t : ℕ) → near string t s ≤ m - 1 → near string t r ≡ near string t s
  pub most : (t : ℕ) → m - 1 < near string t s → near string t r ≡ m - 1

pub length_but : (string : List Key) (q : Key) (s : List Key) → length (but_farthest string q s) ≡ length s
length_but string q [] = refl
length_but string q (r ∷ s) = elim (nat_lt (next_use q string) (next_use r string)) as (λ b. length (cond b (q ∷ but_farthest string r s) (r ∷ but_farthest string q s)) ≡ suc (length s)) [
  | true ↦ ap suc (length_but string r s)
  | false ↦ ap suc (length_but string q s)
]

pub room_is : (m : ℕ) (string s : List Key) → 1 ≤ m → length s ≤ m → Room m string s (room_for m string s)
room_is m string [] some few = record { few = some; least = λ t h. refl; most = λ t h. absurd (omega (arith, h)) }
room_is m string (q ∷ s) some few = elim (nat_lt (suc (length s)) m) as (λ b. nat_lt (suc (length s)) m ≡ b → Room m string (q ∷ s) (cond b (q ∷ s) (but_farthest string q s))) [
  | true ↦ λ is. let less : suc (suc (length s)) ≤ m = below (suc (length s)) m is in record {
    few = less;
    least = λ t h. refl;
    most = λ t h. let all : near string t (q ∷ s) ≤ suc (length s) = number_few (is_near string t) (q ∷ s) in absurd (omega (arith, all, less, h));
  }
  | false ↦ λ is.
      let full : m ≡ suc (length s) = exact (suc (length s)) m is few in
      let size : length (but_farthest string q s) ≡ length s = length_but string q s in record {
        few = omega (arith, full, size);
        least = λ t h. (near_but string t q s).0 (omega (arith, full, h));
        most = λ t h. let e : near string t (but_farthest string q s) ≡ length s = (near_but string t q s).1 (omega (arith, full, h)) in omega (arith, e, full);
      }
] refl
  where
    below : (n m : ℕ) → nat_lt n m ≡ true → suc n ≤ m
    below n m h = grind (arith, nat_tests)

    exact : (n m : ℕ) → nat_lt n m ≡ false → n ≤ m → m ≡ n
    exact n m h g = grind (arith, nat_tests)
