-- What the lines of all scripts share.
use Rattle.std.specs.Prelude.{◌≡◌, ℕ, List, [], ◌∷◌, ◌⊎◌}

-- an empty line, or one that begins with `#`
abbrev pub IsSkipped : List ℕ → Type 0
IsSkipped line = (line ≡ []) ⊎ ((rest : List ℕ) × (line ≡ 35 ∷ rest))
