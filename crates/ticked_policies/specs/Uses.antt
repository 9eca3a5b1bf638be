-- Strings in which each reference says whether it writes, and how many of it miss.
use Rattle.std.specs.Prelude.{ℕ, ◌+◌, Bool, cond, List, [], ◌∷◌, map}
use Rattle.clock_policy.specs.declared.key.Key.{Key}
use Rattle.ticked_policies.specs.declared.page_use.PageUse.{PageUse}
use Rattle.page_policies.specs.Demand.{Plays}
use Rattle.std.specs.Prelude.{◌≤◌}

abbrev pub pages_of : List PageUse → List Key
pages_of references = map (λ reference. reference.page) references

-- How many references miss: those whose page is in no frame at that moment. `held` says what is in a frame. `next` gives the state after
-- a reference.
abbrev pub misses : {S : Type 0} → (Key → S → Bool) → (PageUse → S → S) → S → List PageUse → ℕ
misses held next s [] = 0
misses held next s (r ∷ rs) = cond (held r.page s) 0 1 + misses held next (next r s) rs

-- what the policy does is a way to serve the string's pages, each when it is used
abbrev pub AreWritesPlayed : (ℕ → List PageUse → ℕ) → Type 0
AreWritesPlayed misses_of = (frames : ℕ) (string : List PageUse) → 1 ≤ frames → Plays frames [] (pages_of string) (misses_of frames string)
