-- Text as lists of bytes, cut into lines and words.
use Rattle.std.specs.Prelude.{ℕ, List, [], ◌∷◌, Bool, ◌==◌, ◌||◌, filter, nat_lt, length, if◌then◌else◌}

-- c in front of the first part
abbrev pub ahead : ℕ → List (List ℕ) → List (List ℕ)
ahead c [] = (c ∷ []) ∷ []
ahead c (part ∷ parts) = (c ∷ part) ∷ parts

-- the parts of a text: each ends before a byte that passes the test, and one at the end of the text begins no further part
abbrev pub parts_at : (ℕ → Bool) → List ℕ → List (List ℕ)
parts_at ends [] = []
parts_at ends (c ∷ text) = if ends c then [] ∷ parts_at ends text else ahead c (parts_at ends text)

-- a line feed
abbrev pub is_line_end : ℕ → Bool
is_line_end c = c == 10

-- a space or a tab
abbrev pub is_blank : ℕ → Bool
is_blank c = (c == 32) || (c == 9)

abbrev pub lines_of : List ℕ → List (List ℕ)
lines_of text = parts_at is_line_end text

-- the words of a line are what stands between blanks
abbrev pub words_of : List ℕ → List (List ℕ)
words_of line = filter (λ part. nat_lt 0 (length part)) (parts_at is_blank line)
