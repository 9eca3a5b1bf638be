-- NRU and aging are ways to serve a string: a proof.
use Rattle.std.specs.Prelude.{◌≡◌, ℕ, zero, suc, ◌+◌, ◌-◌, ◌<◌, ◌≤◌, ◌==◌, Bool, true, false, cond, nat_lt, List, [], ◌∷◌, ◌++◌, length, slice_set, refl}
use Rattle.std.specs.Map.{keys_of}
use Rattle.std.proofs.Common.{arith, sym, ap, ◌∙◌}
use Rattle.clock_policy.specs.declared.key.Key.{Key}
use Rattle.page_policies.specs.Strings.{is_page, holds}
use Rattle.page_policies.specs.Demand.{number, MayLeave}
use Rattle.page_policies.proofs.NumberLaws.{less, most}
use Rattle.page_policies.proofs.PartLaws.{number_append, there_second, length_parts, hit_leaves, miss_leaves, Serves}
use Rattle.page_policies.proofs.PlayedLaws.{here}
use Rattle.ticked_policies.specs.declared.marks.Marks.{Marks}
use Rattle.ticked_policies.specs.declared.page_use.PageUse.{PageUse}
use Rattle.ticked_policies.specs.declared.ticked_rule.TickedRule.{TickedRule}
use Rattle.ticked_policies.specs.declared.ticked_rule.TickedRule.TheVariants.{NotRecentlyUsed, Aging}
use Rattle.ticked_policies.specs.declared.ticks.AgingTicks.{AgingTicks}
use Rattle.ticked_policies.specs.declared.ticks.NruTicks.{NruTicks}
use Rattle.ticked_policies.specs.Framed.{brought, fresh, in_frames, lowest, lowest_from, noted, used_by}
use Rattle.ticked_policies.specs.Ticked.{TickedState, aging_misses, each_ticked, every_of, in_ticked, nru_misses, passed, rank_of, served, ticked_by, ticked_misses}
use Rattle.ticked_policies.specs.Uses.{AreWritesPlayed}
use Rattle.ticked_policies.proofs.UsesPlayLaws.{uses_played}

-- the pages in frames

in_keys : (p : Key) (fs : List (Key × Marks)) → in_frames p fs ≡ holds p (keys_of fs)
in_keys p [] = refl
in_keys p (f ∷ fs) = elim (is_page p f.0) as (λ b. cond b true (in_frames p fs) ≡ cond b true (holds p (keys_of fs))) [ true ↦ refl | false ↦ in_keys p fs ]

keys_noted : (p : Key) (writes : Bool) (fs : List (Key × Marks)) → keys_of (noted p writes fs) ≡ keys_of fs
keys_noted p writes [] = refl
keys_noted p writes (f ∷ fs) = elim (is_page p f.0) as (λ b. keys_of (cond b ((f.0, used_by writes f.1) ∷ fs) (f ∷ noted p writes fs)) ≡ f.0 ∷ keys_of fs) [ true ↦ refl | false ↦ ap (λ (l : List Key). f.0 ∷ l) (keys_noted p writes fs) ]

keys_ticked : (rule : TickedRule) (fs : List (Key × Marks)) → keys_of (each_ticked rule fs) ≡ keys_of fs
keys_ticked rule [] = refl
keys_ticked rule (f ∷ fs) = ap (λ (l : List Key). f.0 ∷ l) (keys_ticked rule fs)

keys_pushed : (p : Key) (m : Marks) (fs : List (Key × Marks)) → keys_of (fs ++ (p, m) ∷ []) ≡ keys_of fs ++ p ∷ []
keys_pushed p m [] = refl
keys_pushed p m (f ∷ fs) = ap (λ (l : List Key). f.0 ∷ l) (keys_pushed p m fs)

keys_set : (i : ℕ) (p : Key) (m : Marks) (fs : List (Key × Marks)) → keys_of (slice_set fs i (p, m)) ≡ slice_set (keys_of fs) i p
keys_set i p m [] = refl
keys_set zero p m (f ∷ fs) = refl
keys_set (suc i) p m (f ∷ fs) = ap (λ (l : List Key). f.0 ∷ l) (keys_set i p m fs)

keys_long : (fs : List (Key × Marks)) → length (keys_of fs) ≡ length fs
keys_long [] = refl
keys_long (f ∷ fs) = ap suc (keys_long fs)

-- a page in the place of another

set_there : (i : ℕ) (p : Key) (s : List Key) → i < length s → holds p (slice_set s i p) ≡ true
set_there i p [] h = absurd (omega (arith, h))
set_there zero p (q ∷ s) h = here p s
set_there (suc i) p (q ∷ s) h = ap (λ (b : Bool). cond (is_page p q) true b) (set_there i p s (omega (arith, h))) ∙ either (is_page p q)
  where
    either : (b : Bool) → cond b true true ≡ true
    either true = refl
    either false = refl

set_number : (test : Key → Bool) (i : ℕ) (p : Key) (s : List Key) → number test (slice_set s i p) ≤ number test s + cond (test p) 1 0
set_number test i p [] = omega arith
set_number test zero p (q ∷ s) = omega arith
set_number test (suc i) p (q ∷ s) = let rest : number test (slice_set s i p) ≤ number test s + cond (test p) 1 0 = set_number test i p s in omega (arith, rest)

set_long : (i : ℕ) (p : Key) (s : List Key) → length (slice_set s i p) ≡ length s
set_long i p [] = refl
set_long zero p (q ∷ s) = refl
set_long (suc i) p (q ∷ s) = ap suc (set_long i p s)

-- the frame whose page leaves is one of those

from_within : (rank : Marks → ℕ) (n best least place : ℕ) (fs : List (Key × Marks)) → best < n → place + length fs ≤ n → lowest_from rank best least place fs < n
from_within rank n best least place [] few end = few
from_within rank n best least place (f ∷ fs) few end =
    elim (nat_lt (rank f.1) least) as (λ b. cond b (lowest_from rank place (rank f.1) (suc place) fs) (lowest_from rank best least (suc place) fs) < n) [
      | true ↦ from_within rank n place (rank f.1) (suc place) fs (omega (arith, end)) (omega (arith, end))
      | false ↦ from_within rank n best least (suc place) fs few (omega (arith, end))
    ]

lowest_within : (rank : Marks → ℕ) (fs : List (Key × Marks)) → 1 ≤ length fs → lowest rank fs < length fs
lowest_within rank [] h = absurd (omega (arith, h))
lowest_within rank (f ∷ fs) h = from_within rank (length (f ∷ fs)) 0 (rank f.1) 1 fs (omega arith) (omega arith)

-- a page that comes in

pushes : (m : ℕ) (p : Key) (s : List Key) → holds p s ≡ false → length s < m → MayLeave m p s (s ++ p ∷ [])
pushes m p s h few =
    let e : length (s ++ p ∷ []) ≡ length s + 1 = length_parts s (p ∷ []) in
    miss_leaves m p s (s ++ p ∷ []) (sym h) (there_second p s (p ∷ []) (here p [])) (omega (arith, e, few)) (λ test. let n : number test (s ++ p ∷ []) ≡ number test s + (cond (test p) 1 0 + 0) = number_append test s (p ∷ []) in omega (arith, n))

sets : (m i : ℕ) (p : Key) (s : List Key) → holds p s ≡ false → i < length s → length s ≤ m → MayLeave m p s (slice_set s i p)
sets m i p s h inside few =
    let e : length (slice_set s i p) ≡ length s = set_long i p s in
    miss_leaves m p s (slice_set s i p) (sym h) (set_there i p s inside) (omega (arith, e, few)) (λ test. set_number test i p s)

brings : (rank : Marks → ℕ) (m : ℕ) (p : Key) (marks : Marks) (fs : List (Key × Marks)) → 1 ≤ m → length fs ≤ m → holds p (keys_of fs) ≡ false → MayLeave m p (keys_of fs) (keys_of (brought rank m p marks fs))
brings rank m p marks fs some few h =
    let size : length (keys_of fs) ≡ length fs = keys_long fs in
    elim (nat_lt (length fs) m) as (λ b. nat_lt (length fs) m ≡ b → MayLeave m p (keys_of fs) (keys_of (cond b (fs ++ (p, marks) ∷ []) (slice_set fs (lowest rank fs) (p, marks))))) [
      | true ↦ λ e. let room : length fs < m = less (length fs) m e in rw (keys_pushed p marks fs) (pushes m p (keys_of fs) h (omega (arith, room, size)))
      | false ↦ λ e.
          let full : m ≤ length fs = most (length fs) m e in
          let inside : lowest rank fs < length fs = lowest_within rank fs (omega (arith, full, some)) in
          rw (keys_set (lowest rank fs) p marks fs) (sets m (lowest rank fs) p (keys_of fs) h (omega (arith, inside, size)) (omega (arith, size, few)))
    ] refl

serves_one : (rule : TickedRule) (m : ℕ) (r : PageUse) (fs : List (Key × Marks)) → 1 ≤ m → length fs ≤ m → MayLeave m r.page (keys_of fs) (keys_of (served rule m r fs))
serves_one rule m r fs some few =
    let size : length (keys_of fs) ≡ length fs = keys_long fs in
    elim (in_frames r.page fs) as (λ b. in_frames r.page fs ≡ b → MayLeave m r.page (keys_of fs) (keys_of (cond b (noted r.page r.is_written fs) (brought (rank_of rule) m r.page (fresh r.is_written 0) fs)))) [
      | true ↦ λ h.
          let there : holds r.page (keys_of fs) ≡ true = sym (in_keys r.page fs) ∙ h in
          rw (keys_noted r.page r.is_written fs) (hit_leaves m r.page (keys_of fs) (keys_of fs) (sym there) there (omega (arith, size, few)) (λ test. omega arith))
      | false ↦ λ h. brings (rank_of rule) m r.page (fresh r.is_written 0) fs some few (sym (in_keys r.page fs) ∙ h)
    ] refl

keys_passed : (rule : TickedRule) (every : ℕ) (s : TickedState) → keys_of (passed rule every s).pages ≡ keys_of s.pages
keys_passed rule every s = elim (s.left == 1) as (λ b. keys_of (let t : TickedState = cond b (record { pages = each_ticked rule s.pages; left = every }) (record { pages = s.pages; left = s.left - 1 }) in t).pages ≡ keys_of s.pages) [
  | true ↦ keys_ticked rule s.pages
  | false ↦ refl
]

serves : (rule : TickedRule) (every m : ℕ) → 1 ≤ m → (r : PageUse) (s : TickedState) → length s.pages ≤ m → Serves m (λ s. keys_of s.pages) (λ s. length s.pages ≤ m) in_ticked r.page s (ticked_by rule every m r s)
serves rule every m some r s few =
    let l : MayLeave m r.page (keys_of s.pages) (keys_of (ticked_by rule every m r s).pages) = rw (keys_passed rule every (record { pages = served rule m r s.pages; left = s.left })) (serves_one rule m r s.pages some few) in
    let size : length (keys_of (ticked_by rule every m r s).pages) ≡ length (ticked_by rule every m r s).pages = keys_long (ticked_by rule every m r s).pages in
    let most : length (keys_of (ticked_by rule every m r s).pages) ≤ m = l.few in
    record { found = in_keys r.page s.pages; leaves = l; lawful_after = omega (arith, size, most) }

ticked_played : (rule : TickedRule) (every : ℕ → ℕ) → AreWritesPlayed (λ m string. ticked_misses rule (every m) m string)
unfolding ticked_misses
ticked_played rule every frames string some =
    uses_played frames (λ s. keys_of s.pages) (λ s. length s.pages ≤ frames) in_ticked (ticked_by rule (every frames) frames) (serves rule (every frames) frames some) (record { pages = []; left = every frames }) string (omega arith)

pub nru_played : (ticks : NruTicks) → AreWritesPlayed (nru_misses ticks)
unfolding nru_misses
nru_played ticks = ticked_played NotRecentlyUsed (every_of ticks.every)

pub aging_played : (ticks : AgingTicks) → AreWritesPlayed (aging_misses ticks)
unfolding aging_misses
aging_played ticks = ticked_played (Aging ticks.bits) (every_of ticks.every)
