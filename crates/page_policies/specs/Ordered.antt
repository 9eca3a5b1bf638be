-- Pages in an order, the one that came to the front last first: queues and stacks of pages.
use Rattle.std.specs.Prelude.{ℕ, ◌-◌, cond, nat_lt, List, ◌∷◌, length, take, slice_get, Option}
use Rattle.clock_policy.specs.declared.key.Key.{Key}
use Rattle.page_policies.specs.Strings.{without}

-- the page comes to the front, from wherever it was
abbrev pub to_front : Key → List Key → List Key
to_front p s = p ∷ without p s

-- the page at the tail
abbrev pub last_of : List Key → Option Key
last_of s = slice_get s (length s - 1)

-- the others
abbrev pub but_last : List Key → List Key
but_last s = take (length s - 1) s

-- so many at most, where there is one more than that
abbrev pub at_most : ℕ → List Key → List Key
at_most n s = cond (nat_lt n (length s)) (but_last s) s
