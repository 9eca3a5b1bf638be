-- Calls that are written as a name and numbers.
use Rattle.std.specs.Prelude.{◌≡◌, ℕ, List, [], ◌∷◌}
use Rattle.text_lines.specs.Numbers.{IsNumber, number_value}

-- a word that writes this number, of 32 bits
abbrev pub Writes : List ℕ → ℕ → Type 0
Writes word number = IsNumber 4294967295 word × (number ≡ number_value word)

abbrev pub AreNameAndNumber : List ℕ → ℕ → List (List ℕ) → Type 0
AreNameAndNumber name number words = (word : List ℕ) × (words ≡ name ∷ word ∷ []) × Writes word number

abbrev pub AreNameAndNumbers : List ℕ → ℕ → ℕ → List (List ℕ) → Type 0
AreNameAndNumbers name one two words = (first : List ℕ) × ((second : List ℕ) ×
    (words ≡ name ∷ first ∷ second ∷ []) × Writes first one × Writes second two)
