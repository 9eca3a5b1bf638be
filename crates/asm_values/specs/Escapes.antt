-- What stands between quotes, and the bytes for which it stands.
-- Source: the C standard, "Character constants" (simple escape sequences, and `\0`).
use Rattle.std.specs.Prelude.{ℕ, ◌≢◌, List, [], ◌∷◌}

-- a character stands for itself; behind a backslash (92) `n` (110) for a line feed, `t` (116) for a tab, `0` (48) for zero, and a
-- backslash and a quote (34) for themselves
pub data ReadsEscapes : List ℕ → List ℕ → Type 0 where
  nothing : ReadsEscapes [] []
  plain : (character : ℕ) (text bytes : List ℕ) → character ≢ 92 → ReadsEscapes text bytes → ReadsEscapes (character ∷ text) (character ∷ bytes)
  line_feed : (text bytes : List ℕ) → ReadsEscapes text bytes → ReadsEscapes (92 ∷ 110 ∷ text) (10 ∷ bytes)
  tab : (text bytes : List ℕ) → ReadsEscapes text bytes → ReadsEscapes (92 ∷ 116 ∷ text) (9 ∷ bytes)
  zero_byte : (text bytes : List ℕ) → ReadsEscapes text bytes → ReadsEscapes (92 ∷ 48 ∷ text) (0 ∷ bytes)
  backslash : (text bytes : List ℕ) → ReadsEscapes text bytes → ReadsEscapes (92 ∷ 92 ∷ text) (92 ∷ bytes)
  quote : (text bytes : List ℕ) → ReadsEscapes text bytes → ReadsEscapes (92 ∷ 34 ∷ text) (34 ∷ bytes)
