-- Most recently used: the page whose use is latest leaves (Raghu Ramakrishnan and Johannes Gehrke, "Database Management Systems", 3rd
-- edition, 9.4). It serves loops that are longer than there are frames.
use Rattle.std.specs.Prelude.{ℕ, cond, nat_lt, List, [], ◌∷◌, length, drop, Option, Some, None}
use Rattle.clock_policy.specs.declared.key.Key.{Key}
use Rattle.page_policies.specs.Strings.{holds, misses}
use Rattle.page_policies.specs.Ordered.{to_front}

-- the page that was used last
abbrev pub recent_of : List Key → Option Key
recent_of [] = None
recent_of (q ∷ qs) = Some q

-- room for one page
abbrev pub room_made : ℕ → List Key → List Key
room_made m s = cond (nat_lt (length s) m) s (drop 1 s)

-- The list begins with the page that was used last. Where each frame has a page, the page that was first leaves.
abbrev pub mru : ℕ → Key → List Key → List Key
mru m p s = cond (holds p s) (to_front p s) (p ∷ room_made m s)

unfoldable pub mru_misses : ℕ → List Key → ℕ
mru_misses m string = misses holds (mru m) [] string
