-- FIFO and LRU on the list of the pages that are in frames.
use Rattle.std.specs.Prelude.{ℕ, cond, List, [], ◌∷◌, take}
use Rattle.clock_policy.specs.declared.key.Key.{Key}
use Rattle.page_policies.specs.Strings.{holds, without, misses}

-- First in, first out. The list begins with the page that came in last. Where each frame has a page, the page that came in first leaves.
abbrev pub fifo : ℕ → Key → List Key → List Key
fifo m p s = cond (holds p s) s (take m (p ∷ s))

-- Least recently used. The list begins with the page that was used last. Where each frame has a page, the least recently used one leaves.
abbrev pub lru : ℕ → Key → List Key → List Key
lru m p s = take m (p ∷ without p s)

unfoldable pub fifo_misses : ℕ → List Key → ℕ
fifo_misses m string = misses holds (fifo m) [] string

unfoldable pub lru_misses : ℕ → List Key → ℕ
lru_misses m string = misses holds (lru m) [] string
