-- What a bus may have marked after some accesses: no more than before, and the pages that they used.
use Rattle.std.specs.Prelude.{◌≡◌, ℕ, Bool, true, List, All}

-- each of these pages passes a test
abbrev pub Pass : (ℕ → Bool) → List ℕ → Type 0
Pass test pages = All (λ page. test page ≡ true) pages

-- whatever tests hold of the pages that were marked, and of the pages that were used and stored to since, hold of the pages
-- that are marked now: no other page's mark was set
pub record Bounds (old new : (ℕ → Bool) → (ℕ → Bool) → Type 0) (used stored : List ℕ) : Type 0 where
  pub bound : (use_test store_test : ℕ → Bool) → Pass use_test used → Pass store_test stored
      → old use_test store_test → new use_test store_test
