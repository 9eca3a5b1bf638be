-- The numbers of words: a trace whose ids are words numbers them from 0 on, in the order in which they come first.
use Rattle.std.specs.Prelude.{ℕ, Bool, nat_eq, List, [], ◌∷◌, ◌++◌, if◌then◌else◌}
use Rattle.std.specs.Cmp.Lexicographic.{pointwise}
use Rattle.std.specs.List.{list_any, position_or_len}
use Rattle.trace_lines.specs.Lines.{word_numbered}
use Rattle.trace_lines.specs.declared.trace_line.TraceLine.{TraceLine}
use Rattle.trace_lines.specs.declared.trace_line.TraceLine.TheVariants.{Refers, Word, LeftOut, Names}

abbrev pub is_same_word : List ℕ → List ℕ → Bool
is_same_word word other = pointwise nat_eq word other

-- the number of a word: its place among those that came before, or the place after them
abbrev pub number_of : List ℕ → List (List ℕ) → ℕ
number_of word words = position_or_len (is_same_word word) words

-- the words with this one, which is after the others if it is new
abbrev pub with_word : List ℕ → List (List ℕ) → List (List ℕ)
with_word word words = if list_any (is_same_word word) words then words else words ++ word ∷ []

-- what a line says with this word, if it has one: then it refers to the page of the word's number
abbrev pub resolved : List (List ℕ) → List ℕ → TraceLine → TraceLine
resolved words word (Refers line) = Refers line
resolved words word (Word is_written) = word_numbered (number_of word words) is_written
resolved words word LeftOut = LeftOut
resolved words word (Names column) = Names column

-- the words after a line
abbrev pub words_behind : List (List ℕ) → List ℕ → TraceLine → List (List ℕ)
words_behind words word (Refers line) = words
words_behind words word (Word is_written) = with_word word words
words_behind words word LeftOut = words
words_behind words word (Names column) = words
