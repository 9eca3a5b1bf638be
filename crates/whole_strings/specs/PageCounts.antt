-- How many pages a string has.
use Rattle.std.specs.Prelude.{ℕ, ◌+◌, Bool, true, false, cond, List, [], ◌∷◌}
use Rattle.clock_policy.specs.declared.key.Key.{Key}
use Rattle.page_policies.specs.Strings.{is_page}

-- how many references of a string are to pages that were not seen before
abbrev pub first_uses : (Key → Bool) → List Key → ℕ
first_uses seen [] = 0
first_uses seen (p ∷ ps) = cond (seen p) 0 1 + first_uses (λ q. cond (is_page p q) true (seen q)) ps

-- how many pages a string has
unfoldable pub page_count : List Key → ℕ
page_count string = first_uses (λ q. false) string
