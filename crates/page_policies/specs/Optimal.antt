-- The optimum, which knows the whole string (Belady's MIN): of all pages that could leave, the one whose next use is farthest does.
use Rattle.std.specs.Prelude.{ℕ, suc, ◌+◌, cond, nat_lt, List, [], ◌∷◌, length}
use Rattle.clock_policy.specs.declared.key.Key.{Key}
use Rattle.page_policies.specs.Strings.{is_page, holds}

-- How many references come before the page's next use. A page that is never used again is farther than any other: all of them do.
abbrev pub next_use : Key → List Key → ℕ
next_use p [] = 0
next_use p (q ∷ qs) = cond (is_page q p) 0 (suc (next_use p qs))

-- The pages q and s without the one whose next use is farthest. Of several that are never used again, the first one leaves.
abbrev pub but_farthest : List Key → Key → List Key → List Key
but_farthest string q [] = []
but_farthest string q (r ∷ s) =
    cond (nat_lt (next_use q string) (next_use r string)) (q ∷ but_farthest string r s) (r ∷ but_farthest string q s)

-- room for one page: where each frame has one, the farthest leaves
abbrev pub room_for : ℕ → List Key → List Key → List Key
room_for m string [] = []
room_for m string (q ∷ s) = cond (nat_lt (length (q ∷ s)) m) (q ∷ s) (but_farthest string q s)

-- how many references of the string miss where these pages are in m frames
abbrev pub optimal_from : ℕ → List Key → List Key → ℕ
optimal_from m s [] = 0
optimal_from m s (p ∷ ps) = cond (holds p s) (optimal_from m s ps) (1 + optimal_from m (p ∷ room_for m ps s) ps)

unfoldable pub optimal_misses : ℕ → List Key → ℕ
optimal_misses m string = optimal_from m [] string
