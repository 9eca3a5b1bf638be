-- A `.words` file: a first line `.words`, then one word a line, in eight hexadecimal digits.
use Rattle.std.specs.Prelude.{◌≡◌, ℕ, List, [], ◌∷◌, length, map, drop, take, codes}
use Rattle.std.specs.List.{AllByRecursion}
use Rattle.std.specs.Str.Parse.{AllDigits, digits_value}
use Rattle.text_lines.specs.Text.{lines_of}

-- eight hexadecimal digits, their letters in either case
abbrev pub IsWordLine : List ℕ → Type 0
IsWordLine line = (length line ≡ 8) × AllDigits 16 line

abbrev pub AreWordLines : List (List ℕ) → Type 0
AreWordLines lines = AllByRecursion IsWordLine lines

-- the words that lines write
abbrev pub words_on : List (List ℕ) → List ℕ
words_on lines = map (digits_value 16) lines

abbrev pub IsWordsFile : List ℕ → Type 0
IsWordsFile text = (take 1 (lines_of text) ≡ codes ".words" ∷ []) × AreWordLines (drop 1 (lines_of text))

-- the words on the lines after the first
abbrev pub words_in : List ℕ → List ℕ
words_in text = words_on (drop 1 (lines_of text))
