-- Any way to serve a string in so many frames, each page when it is used: no policy does what is not one of these.
use Rattle.std.specs.Prelude.{◌≡◌, ℕ, ◌+◌, ◌≤◌, Bool, true, cond, List, [], ◌∷◌, length}
use Rattle.clock_policy.specs.declared.key.Key.{Key}
use Rattle.page_policies.specs.Strings.{holds}
use Rattle.page_policies.specs.Optimal.{optimal_misses}

-- how many pages pass the test
abbrev pub number : (Key → Bool) → List Key → ℕ
number test [] = 0
number test (q ∷ qs) = cond (test q) 1 0 + number test qs

-- one for what is so
abbrev pub one : Bool → ℕ
one b = cond b 1 0

-- A reference to p may leave the pages u in m frames where s were: p is there, and whatever else is there was there before. Any
-- others may have left.
pub record MayLeave (m : ℕ) (p : Key) (s u : List Key) : Type 0 where
  pub there : holds p u ≡ true
  pub few : length u ≤ m
  pub from : (test : Key → Bool) → number test u ≤ number test (cond (holds p s) s (p ∷ s))

-- From these pages on the string can be served with n misses.
abbrev pub Plays : ℕ → List Key → List Key → ℕ → Type 0
Plays m s [] n = n ≡ 0
Plays m s (p ∷ ps) n = (u : List Key) × ((later : ℕ) × (MayLeave m p s u × ((n ≡ cond (holds p s) 0 1 + later) × Plays m u ps later)))

-- no way to serve a string, from empty frames, misses less than the optimum
abbrev pub NoneMissesLess : Type 0
NoneMissesLess = (frames n : ℕ) (string : List Key) → 1 ≤ frames → Plays frames [] string n → optimal_misses frames string ≤ n

-- what the policy does is such a way
abbrev pub IsPlayed : (ℕ → List Key → ℕ) → Type 0
IsPlayed misses_of = (frames : ℕ) (string : List Key) → 1 ≤ frames → Plays frames [] string (misses_of frames string)

-- the same of a policy for so many frames at least, and so many at most
abbrev pub IsPlayedWithin : ℕ → ℕ → (ℕ → List Key → ℕ) → Type 0
IsPlayedWithin least most misses_of = (frames : ℕ) (string : List Key) → least ≤ frames → frames ≤ most → Plays frames [] string (misses_of frames string)
