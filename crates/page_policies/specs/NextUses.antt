-- How far ahead each page of a string is used again.
use Rattle.std.specs.Prelude.{ℕ, List, [], ◌∷◌, Option, Some, None}
use Rattle.clock_policy.specs.declared.key.Key.{Key}
use Rattle.page_policies.specs.Optimal.{next_use}

-- for each reference how many others come before its page is used again
abbrev pub next_uses : List Key → List ℕ
next_uses [] = []
next_uses (p ∷ ps) = next_use p ps ∷ next_uses ps

abbrev pub known : Option ℕ → ℕ
known None = 0
known (Some n) = n
