-- The optimum with every number of frames at once: the stack of Richard L. Mattson, Jan Gecsei, Donald R. Slutz and Irving L. Traiger,
-- "Evaluation Techniques for Storage Hierarchies", IBM Systems Journal 1970, for the policy OPT, whose priority is the next use. The pages
-- are in an order in which m frames have the first m. Each is given only by the place in the string of its next use (`NextPlaces`). A
-- reference at `at` finds its page where `at` is, and hits with more frames than there are places before it.
use Rattle.std.specs.Prelude.{◌≡◌, ℕ, suc, ◌+◌, ◌<◌, ◌==◌, cond, nat_lt, List, [], ◌∷◌, length}
use Rattle.clock_policy.specs.declared.key.Key.{Key}
use Rattle.page_policies.specs.Optimal.{optimal_misses}
use Rattle.whole_strings.specs.LruDepths.{hits_within}

-- of two places the nearer one, and the farther
abbrev pub nearer : ℕ → ℕ → ℕ
nearer a b = cond (nat_lt b a) b a

abbrev pub farther : ℕ → ℕ → ℕ
farther a b = cond (nat_lt b a) a b

-- how many are before the place; where it is nowhere, how many there are
abbrev pub place_depth : ℕ → List ℕ → ℕ
place_depth at [] = 0
place_depth at (y ∷ ys) = cond (y == at) 0 (suc (place_depth at ys))

-- A place is carried down to where `at` was, or to the end. It stays where a farther one is, and that one is carried on instead.
abbrev pub carried_down : ℕ → ℕ → List ℕ → List ℕ
carried_down at c [] = c ∷ []
carried_down at c (y ∷ ys) = cond (y == at) (c ∷ ys) (nearer c y ∷ carried_down at (farther c y) ys)

-- The reference at `at`, whose page is used next at `next`: that comes first, and what was first is carried down.
abbrev pub restacked : ℕ → ℕ → List ℕ → List ℕ
restacked at next [] = next ∷ []
restacked at next (y ∷ ys) = next ∷ cond (y == at) ys (carried_down at y ys)

-- What is counted of a whole string: how many references had so many places before theirs, for each number of them below `most`. Those
-- that hit with m frames, up to so many, are the first m of these numbers together.
abbrev pub CountsOptimum : ℕ → List ℕ → List Key → Type 0
CountsOptimum most counts string = (m : ℕ) → m < most → optimal_misses (m + 1) string + hits_within (m + 1) counts ≡ length string
