-- What more frames are good for.
use Rattle.std.specs.Prelude.{◌≡◌, ℕ, ◌≤◌, true, List, [], ◌∷◌}
use Rattle.clock_policy.specs.declared.key.Key.{Key}
use Rattle.page_policies.specs.Strings.{holds}
use Rattle.page_policies.specs.Queues.{lru}

-- the pages in so many frames under LRU once a string was served, where it began with these
abbrev pub lru_leaves : ℕ → List Key → List Key → List Key
lru_leaves m s [] = s
lru_leaves m s (p ∷ ps) = lru_leaves m (lru m p s) ps

-- The inclusion property of LRU: whatever string was served, from empty frames, each page that is in fewer frames then is in more.
abbrev pub Inclusion : Type 0
Inclusion = (few many : ℕ) (string : List Key) (page : Key) → few ≤ many
    → holds page (lru_leaves few [] string) ≡ true → holds page (lru_leaves many [] string) ≡ true

-- with more frames a policy never misses more, where it has so many at least
abbrev pub MissesNoMore : ℕ → (ℕ → List Key → ℕ) → Type 0
MissesNoMore least misses_of = (few many : ℕ) (string : List Key) → least ≤ few → few ≤ many → misses_of many string ≤ misses_of few string
