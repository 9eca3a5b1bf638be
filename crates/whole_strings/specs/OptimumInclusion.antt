-- What the optimum has in more frames: OPT is a stack algorithm (Mattson, Gecsei, Slutz and Traiger, 1970).
use Rattle.std.specs.Prelude.{◌≡◌, ℕ, ◌≤◌, true, cond, List, [], ◌∷◌, ◌++◌}
use Rattle.clock_policy.specs.declared.key.Key.{Key}
use Rattle.page_policies.specs.Strings.{holds}
use Rattle.page_policies.specs.Optimal.{room_for}

-- the pages in m frames once some references were served and the rest comes after them, where it began with the pages s
abbrev pub optimum_leaves : ℕ → List Key → List Key → List Key → List Key
optimum_leaves m s [] rest = s
optimum_leaves m s (p ∷ ps) rest = optimum_leaves m (cond (holds p s) s (p ∷ room_for m (ps ++ rest) s)) ps rest

-- The inclusion property of the optimum: whatever was served, from empty frames, each page in fewer frames that is used again is in more.
-- Of pages that are never used again it is the same to the optimum which one leaves.
abbrev pub OptimumInclusion : Type 0
OptimumInclusion = (few many : ℕ) (served rest : List Key) (page : Key) → 1 ≤ few → few ≤ many → holds page rest ≡ true
    → holds page (optimum_leaves few [] served rest) ≡ true → holds page (optimum_leaves many [] served rest) ≡ true
