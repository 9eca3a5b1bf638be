use Rattle.std.proofs.Common.{◌≡◌, ◌++◌, length}
use Rattle.text_lines.specs.Text.{lines_of}
use Rattle.image_files.specs.WordsFile.{AreWordLines, words_on}
use Rattle.image_files.proofs.words_file.words_of_lines.Given as goal

-- The lines that were passed are words, and `words` has what they write.
abbrev pub invariant-loop-line : goal.invariant-loop-line
invariant-loop-line l =
    (AreWordLines (lines_of l.rest) → AreWordLines (lines_of l.text))
    × (AreWordLines (lines_of l.text) → AreWordLines (lines_of l.rest))
    × (l.words.items ++ words_on (lines_of l.rest) ≡ words_on (lines_of l.text))

abbrev pub decreases-loop-line : goal.decreases-loop-line
decreases-loop-line l = length l.rest
