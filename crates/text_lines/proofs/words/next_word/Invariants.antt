use Rattle.std.proofs.Common.{◌≡◌, ◌≤◌, length}
use Rattle.text_lines.specs.Text.{words_of}
use Rattle.text_lines.proofs.words.next_word.Given as goal

-- The blanks that were passed part no words.
abbrev pub invariant-loop-rest : goal.invariant-loop-rest
invariant-loop-rest l = (words_of l.rest ≡ words_of l.fn.line) × (length l.rest ≤ length l.fn.line)

abbrev pub decreases-loop-rest : goal.decreases-loop-rest
decreases-loop-rest l = length l.rest
