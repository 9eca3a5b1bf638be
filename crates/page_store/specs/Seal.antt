-- The digest of what was saved to a slot. Where slots are known to be honest none is taken: it is then the digest of what
-- the slot holds, which is what was saved.
use Rattle.std.specs.Prelude.{◌≡◌, ℕ, List, Option, Some, None}
use Rattle.sha2.specs.Sha256.{sha256}

-- a digest that was taken is this one, and none is taken only where slots are honest
abbrev pub IsTaken : Type 0 → List ℕ → Option (List ℕ) → Type 0
IsTaken honest digest None = honest
IsTaken honest digest (Some taken) = taken ≡ digest

-- the digest of a slot's page, of which this one was taken or none
abbrev pub sealed_digest : List ℕ → Option (List ℕ) → List ℕ
sealed_digest held None = sha256 held
sealed_digest held (Some taken) = taken

-- an honest slot's page has the digest that was taken, and none is taken only where slots are honest
abbrev pub IsSealed : Type 0 → List ℕ → Option (List ℕ) → Type 0
IsSealed honest held None = honest
IsSealed honest held (Some taken) = honest → sha256 held ≡ taken
