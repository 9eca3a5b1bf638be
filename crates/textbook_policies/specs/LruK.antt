-- LRU-K: Elizabeth J. O'Neil, Patrick E. O'Neil and Gerhard Weikum, "The LRU-K Page Replacement Algorithm for Database Disk Buffering",
-- SIGMOD 1993, section 2. The page leaves whose last use but K - 1 is longest ago. Pages with fewer uses than K go first, of these the
-- one whose last use is longest ago (definition 2.2, with LRU as the subsidiary policy that it proposes). Lines of their pseudo-code (figure
-- 2.1) are beside the equations. The Correlated Reference Period is 0, and history is retained of each page of the string.
use Rattle.std.specs.Prelude.{ℕ, ◌+◌, ◌-◌, Bool, cond, nat_lt, List, [], ◌∷◌, ◌++◌, Vec, length, drop, slice_get, Option, Some, None}
use Rattle.std.specs.HashMap.{get}
use Rattle.clock_policy.specs.declared.key.Key.{Key}
use Rattle.page_policies.specs.Strings.{is_page, misses}
use Rattle.page_policies.specs.NextUses.{known}
use Rattle.textbook_policies.specs.declared.ranked.Ranked.{Ranked}
use Rattle.textbook_policies.specs.declared.lru_k_uses.LruKUses.{LruKUses}
use Rattle.textbook_policies.specs.declared.lru_k.LruK.{LruK}
use Rattle.textbook_policies.specs.Ranks.{ranked, rank_in, holds_ranked, unranked, placed, room_made, next_number}

-- The pages in frames, ranked by HIST(p,K) and then by HIST(p,1); for each page of the string its HIST, the last use last; and t.
pub record LruKState : Type 0 where
  pub pages : List Ranked
  pub history : Key → List ℕ
  pub time : ℕ

abbrev pub usual_uses : LruKUses
usual_uses = record { k = 2 }

-- K numbers at most, where there is one more: the first goes
abbrev pub cut_to : ℕ → List ℕ → List ℕ
cut_to k s = cond (nat_lt k (length s)) (drop 1 s) s

-- for i := 2 to K do HIST(p,i) := HIST(p,i-1); HIST(p,1) := t
abbrev pub noted : ℕ → ℕ → List ℕ → List ℕ
noted k t s = cut_to k (s ++ t ∷ [])

-- HIST(p,K), which is 0 where the page was used less often
abbrev pub kth_of : ℕ → List ℕ → ℕ
kth_of k s = cond (nat_lt (length s) k) 0 (known (slice_get s (length s - k)))

-- the pages that stay: at a miss the one leaves whose HIST(q,K) is least
abbrev pub others : ℕ → Key → List Ranked → List Ranked
others m p s = cond (holds_ranked p s) (unranked p s) (room_made m s)

abbrev pub with_history : Key → List ℕ → (Key → List ℕ) → Key → List ℕ
with_history p h history q = cond (is_page p q) h (history q)

abbrev pub lru_k : ℕ → ℕ → Key → LruKState → LruKState
lru_k k m p s = record {
  pages = placed (ranked (kth_of k (noted k s.time (s.history p))) s.time p) (others m p s.pages);
  history = with_history p (noted k s.time (s.history p)) s.history;
  time = next_number s.time;
}

abbrev pub in_lru_k : Key → LruKState → Bool
in_lru_k p s = holds_ranked p s.pages

unfoldable pub lru_k_misses : LruKUses → ℕ → List Key → ℕ
lru_k_misses uses m string = misses in_lru_k (lru_k uses.k m) (record { pages = []; history = λ q. []; time = 1 }) string

-- the counter as this definition sees it

abbrev pub listed : {A : Type 0} → Option (Vec ℕ A) → List ℕ
listed None = []
listed (Some d) = d.items

abbrev pub uses_of : LruK → LruKState
uses_of s = record { pages = s.pages; history = λ q. listed (get is_page s.history q); time = s.time }
