use Rattle.std.proofs.Common.{◌≡◌, None, length}
use Rattle.text_lines.specs.Text.{words_of}
use Rattle.trace_lines.specs.AddressLines.{view_words}
use Rattle.trace_lines.proofs.address_lines.view_line.Given as goal

-- The words that are left say, with what was read, what all of them say.
abbrev pub invariant-words : goal.invariant-words
invariant-words l = view_words l.kind l.size (words_of l.rest) ≡ view_words None None (words_of l.fn.line)

abbrev pub decreases-words : goal.decreases-words
decreases-words l = length l.rest
