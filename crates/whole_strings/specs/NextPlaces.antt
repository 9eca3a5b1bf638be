-- The pages in frames, each given only by the place in the string of its next use.
use Rattle.std.specs.Prelude.{◌≡◌, ℕ, ◌+◌, ◌-◌, ◌<◌, ◌≤◌, Bool, true, false, cond, nat_lt, List, [], ◌∷◌, length}
use Rattle.std.specs.Ordering.{nat_cmp}
use Rattle.std.specs.BTreeSet.{insert_key}

-- how many of the numbers are below t
abbrev pub under : ℕ → List ℕ → ℕ
under t [] = 0
under t (x ∷ xs) = cond (nat_lt x t) 1 0 + under t xs

-- The place in a string of n references where the page of the one at `at` is used next, if so many others come before. Where it never
-- is: a place past the end that no other page has.
abbrev pub place : ℕ → ℕ → ℕ → ℕ
place n at ahead = cond (nat_lt ahead (n - at - 1)) (at + 1 + ahead) (n + at)

-- the number `at`, which was first, is gone; or it was not there, where none below it was
abbrev pub Due : ℕ → List ℕ → List ℕ → Bool → Type 0
Due at old new true = old ≡ at ∷ new
Due at old new false = (new ≡ old) × (under at old ≡ 0 → under (at + 1) old ≡ 0)

-- where there were m or more the greatest is gone
pub record Roomed (m : ℕ) (old new : List ℕ) : Type 0 where
  pub size : length new ≡ cond (nat_lt (length old) m) (length old) (length old - 1)
  pub least : (t : ℕ) → under t old ≤ length new → under t new ≡ under t old
  pub most : (t : ℕ) → length new < under t old → under t new ≡ length new

-- A reference that is the one at `at`, whose page is used next at `next`: the numbers before and after it, and whether it hit.
pub record Refers (m at next : ℕ) (old new : List ℕ) (hit : Bool) : Type 0 where
  pub left : List ℕ
  pub hits : hit ≡ true → old ≡ at ∷ left
  pub misses : hit ≡ false → (under at old ≡ 0 → under (at + 1) old ≡ 0) × Roomed m old left
  pub now : new ≡ insert_key nat_cmp left next
