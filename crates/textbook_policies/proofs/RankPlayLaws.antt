-- LFU and LRU-K are ways to serve a string: proofs.
use Rattle.std.specs.Prelude.{◌≡◌, ℕ, suc, ◌+◌, ◌≤◌, ◌<◌, Bool, true, false, cond, nat_lt, List, [], ◌∷◌, length, drop, Option, Some, None, is_some, refl}
use Rattle.std.specs.Ordering.{match_ordering}
use Rattle.std.specs.declared.cmp.Ordering.{Ordering}
use Rattle.std.specs.declared.cmp.Ordering.TheVariants.{Less, Equal, Greater}
use Rattle.std.proofs.Common.{arith, sym, ap, subst, ◌∙◌}
use Rattle.clock_policy.specs.declared.key.Key.{Key}
use Rattle.page_policies.specs.Strings.{is_page, holds, without}
use Rattle.page_policies.specs.Demand.{number, MayLeave, IsPlayed}
use Rattle.page_policies.proofs.NumberLaws.{less}
use Rattle.page_policies.proofs.PlayedLaws.{here}
use Rattle.page_policies.proofs.PartLaws.{number_out, length_out, hit_leaves, miss_leaves, Serves, served_plays}
use Rattle.textbook_policies.specs.declared.ranked.Ranked.{Ranked}
use Rattle.textbook_policies.specs.declared.lru_k_uses.LruKUses.{LruKUses}
use Rattle.textbook_policies.specs.Ranks.{page_of, ranked, rank_cmp, rank_in, holds_ranked, unranked, placed, room_made, next_number}
use Rattle.textbook_policies.specs.Lfu.{LfuState, used_more, lfu_by, lfu, in_lfu, lfu_misses}
use Rattle.textbook_policies.specs.LruK.{LruKState, noted, kth_of, others, lru_k, in_lru_k, lru_k_misses}
use Rattle.textbook_policies.proofs.RankLaws.{equal_page}

-- the pages in frames
abbrev names : List Ranked → List Key
names [] = []
names (x ∷ xs) = page_of x ∷ names xs

found : (p : Key) (s : List Ranked) → holds_ranked p s ≡ holds p (names s)
found p [] = refl
found p (x ∷ xs) = elim (is_page p (page_of x)) as (λ b. is_some (cond b (Some x) (rank_in p xs)) ≡ cond b true (holds p (names xs))) [ true ↦ refl | false ↦ found p xs ]

size : (s : List Ranked) → length (names s) ≡ length s
size [] = refl
size (x ∷ xs) = ap suc (size xs)

names_out : (p : Key) (s : List Ranked) → names (unranked p s) ≡ without p (names s)
names_out p [] = refl
names_out p (x ∷ xs) = elim (is_page p (page_of x)) as (λ b. names (cond b xs (x ∷ unranked p xs)) ≡ cond b (names xs) (page_of x ∷ without p (names xs))) [ true ↦ refl | false ↦ ap (λ (l : List Key). page_of x ∷ l) (names_out p xs) ]

-- a page goes to its place: it is there, and nothing else is that was not

put_there : (k : Ranked) (s : List Ranked) → holds (page_of k) (names (placed k s)) ≡ true
put_there k [] = here (page_of k) []
put_there k (x ∷ xs) = elim (rank_cmp k x) as (λ o. rank_cmp k x ≡ o → holds (page_of k) (names (match_ordering o (k ∷ x ∷ xs) (x ∷ xs) (x ∷ placed k xs))) ≡ true) [
  | Less ↦ λ e. here (page_of k) (names (x ∷ xs))
  | Equal ↦ λ e. ap (λ (q : Key). holds q (page_of x ∷ names xs)) (equal_page k x e) ∙ here (page_of x) (names xs)
  | Greater ↦ λ e. ap (λ (b : Bool). cond (is_page (page_of k) (page_of x)) true b) (put_there k xs) ∙ either (is_page (page_of k) (page_of x))
] refl
  where
    either : (b : Bool) → cond b true true ≡ true
    either true = refl
    either false = refl

put_number : (test : Key → Bool) (k : Ranked) (s : List Ranked) → number test (names (placed k s)) ≤ number test (names s) + cond (test (page_of k)) 1 0
put_number test k [] = omega arith
put_number test k (x ∷ xs) = elim (rank_cmp k x) as (λ o. number test (names (match_ordering o (k ∷ x ∷ xs) (x ∷ xs) (x ∷ placed k xs))) ≤ number test (names (x ∷ xs)) + cond (test (page_of k)) 1 0) [
  | Less ↦ omega arith
  | Equal ↦ omega arith
  | Greater ↦ let later : number test (names (placed k xs)) ≤ number test (names xs) + cond (test (page_of k)) 1 0 = put_number test k xs in omega (arith, later)
]

put_length : (k : Ranked) (s : List Ranked) → length (placed k s) ≤ length s + 1
put_length k [] = omega arith
put_length k (x ∷ xs) = elim (rank_cmp k x) as (λ o. length (match_ordering o (k ∷ x ∷ xs) (x ∷ xs) (x ∷ placed k xs)) ≤ length (x ∷ xs) + 1) [
  | Less ↦ omega arith
  | Equal ↦ omega arith
  | Greater ↦ let later : length (placed k xs) ≤ length xs + 1 = put_length k xs in omega (arith, later)
]

-- room for one page
record Room (m : ℕ) (s t : List Ranked) : Type 0 where
  few : length t < m
  fewer : (test : Key → Bool) → number test (names t) ≤ number test (names s)

room_is : (m : ℕ) (s : List Ranked) → 1 ≤ m → length s ≤ m → Room m s (room_made m s)
room_is m s some few = elim (nat_lt (length s) m) as (λ b. nat_lt (length s) m ≡ b → Room m s (cond b s (drop 1 s))) [
  | true ↦ λ h. record { few = less (length s) m h; fewer = λ test. omega arith }
  | false ↦ λ h. out s few
] refl
  where
    out : (s : List Ranked) → length s ≤ m → Room m s (drop 1 s)
    out [] few = record { few = omega (arith, some); fewer = λ test. omega arith }
    out (x ∷ xs) few = record { few = omega (arith, few); fewer = λ test. omega arith }

-- a hit, at which the page goes to another place, and a miss

hit : (m a b : ℕ) (p : Key) (s : List Ranked) → length s ≤ m → holds_ranked p s ≡ true → MayLeave m p (names s) (names (placed (ranked a b p) (unranked p s)))
hit m a b p s few h =
    let there : holds p (names s) ≡ true = sym (found p s) ∙ h in
    let out : names (unranked p s) ≡ without p (names s) = names_out p s in
    hit_leaves m p (names s) (names (placed (ranked a b p) (unranked p s))) (sym there) (put_there (ranked a b p) (unranked p s))
    (let e : length (names (placed (ranked a b p) (unranked p s))) ≡ length (placed (ranked a b p) (unranked p s)) = size (placed (ranked a b p) (unranked p s)) in
    let l : length (placed (ranked a b p) (unranked p s)) ≤ length (unranked p s) + 1 = put_length (ranked a b p) (unranked p s) in
    let n : length (names (unranked p s)) ≡ length (unranked p s) = size (unranked p s) in
    let k : length (names (unranked p s)) ≡ length (without p (names s)) = ap length out in
    let o : length (without p (names s)) + 1 ≡ length (names s) = length_out p (names s) there in
    let z : length (names s) ≡ length s = size s in omega (arith, e, l, n, k, o, z, few))
    (λ test.
    let l : number test (names (placed (ranked a b p) (unranked p s))) ≤ number test (names (unranked p s)) + cond (test p) 1 0 = put_number test (ranked a b p) (unranked p s) in
    let k : number test (names (unranked p s)) ≡ number test (without p (names s)) = ap (number test) out in
    let o : number test (without p (names s)) + cond (test p) 1 0 ≡ number test (names s) = number_out test p (names s) there in omega (arith, l, k, o))

miss : (m a b : ℕ) (p : Key) (s : List Ranked) → 1 ≤ m → length s ≤ m → holds_ranked p s ≡ false → MayLeave m p (names s) (names (placed (ranked a b p) (room_made m s)))
miss m a b p s some few h =
    let r : Room m s (room_made m s) = room_is m s some few in
    miss_leaves m p (names s) (names (placed (ranked a b p) (room_made m s))) (sym h ∙ found p s) (put_there (ranked a b p) (room_made m s))
    (let e : length (names (placed (ranked a b p) (room_made m s))) ≡ length (placed (ranked a b p) (room_made m s)) = size (placed (ranked a b p) (room_made m s)) in
    let l : length (placed (ranked a b p) (room_made m s)) ≤ length (room_made m s) + 1 = put_length (ranked a b p) (room_made m s) in
    let f : length (room_made m s) < m = r.few in omega (arith, e, l, f))
    (λ test.
    let l : number test (names (placed (ranked a b p) (room_made m s))) ≤ number test (names (room_made m s)) + cond (test p) 1 0 = put_number test (ranked a b p) (room_made m s) in
    let f : number test (names (room_made m s)) ≤ number test (names s) = r.fewer test in omega (arith, l, f))

within : (m : ℕ) (p : Key) (s t : List Ranked) → MayLeave m p (names s) (names t) → length t ≤ m
within m p s t l = let e : length (names t) ≡ length t = size t in let f : length (names t) ≤ m = l.few in omega (arith, e, f)

-- LFU

lfu_leaves : (m : ℕ) (p : Key) (s : LfuState) → 1 ≤ m → length s.pages ≤ m → MayLeave m p (names s.pages) (names (lfu m p s).pages)
lfu_leaves m p s some few = by_rank (rank_in p s.pages) refl
  where
    by_rank : (o : Option Ranked) → rank_in p s.pages ≡ o → MayLeave m p (names s.pages) (names (lfu_by o m p s).pages)
    by_rank None is = miss m 1 s.comings p s.pages some few (ap is_some is)
    by_rank (Some r) is = hit m (next_number r.first) r.second p s.pages few (ap is_some is)

lfu_serves : (m : ℕ) → 1 ≤ m → (p : Key) (s : LfuState) → length s.pages ≤ m → Serves m (λ s. names s.pages) (λ s. length s.pages ≤ m) in_lfu p s (lfu m p s)
lfu_serves m some p s few = let l : MayLeave m p (names s.pages) (names (lfu m p s).pages) = lfu_leaves m p s some few in record {
  found = found p s.pages;
  leaves = l;
  lawful_after = within m p s.pages (lfu m p s).pages l;
}

pub lfu_played : IsPlayed lfu_misses
unfolding lfu_misses
lfu_played frames string some = served_plays frames (λ s. names s.pages) (λ s. length s.pages ≤ frames) in_lfu (lfu frames) (lfu_serves frames some) (record { pages = []; comings = 0 }) string (omega arith)

-- LRU-K

lru_k_leaves : (k m : ℕ) (p : Key) (s : LruKState) → 1 ≤ m → length s.pages ≤ m → MayLeave m p (names s.pages) (names (lru_k k m p s).pages)
lru_k_leaves k m p s some few =
    elim (holds_ranked p s.pages) as (λ b. holds_ranked p s.pages ≡ b → MayLeave m p (names s.pages) (names (placed (ranked (kth_of k (noted k s.time (s.history p))) s.time p) (cond b (unranked p s.pages) (room_made m s.pages))))) [
      | true ↦ λ h. hit m (kth_of k (noted k s.time (s.history p))) s.time p s.pages few h
      | false ↦ λ h. miss m (kth_of k (noted k s.time (s.history p))) s.time p s.pages some few h
    ] refl

lru_k_serves : (k m : ℕ) → 1 ≤ m → (p : Key) (s : LruKState) → length s.pages ≤ m → Serves m (λ s. names s.pages) (λ s. length s.pages ≤ m) in_lru_k p s (lru_k k m p s)
lru_k_serves k m some p s few = let l : MayLeave m p (names s.pages) (names (lru_k k m p s).pages) = lru_k_leaves k m p s some few in record {
  found = found p s.pages;
  leaves = l;
  lawful_after = within m p s.pages (lru_k k m p s).pages l;
}

pub lru_k_played : (uses : LruKUses) → IsPlayed (lru_k_misses uses)
unfolding lru_k_misses
lru_k_played uses frames string some =
    served_plays frames (λ s. names s.pages) (λ s. length s.pages ≤ frames) in_lru_k (lru_k uses.k frames) (lru_k_serves uses.k frames some) (record { pages = []; history = λ q. []; time = 1 }) string (omega arith)
