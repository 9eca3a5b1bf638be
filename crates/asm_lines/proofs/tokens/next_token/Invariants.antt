use Rattle.std.proofs.Common.{◌≡◌, ◌≤◌, length}
use Rattle.asm_lines.specs.Tokens.{tokens_of}
use Rattle.asm_lines.proofs.tokens.next_token.Given as goal

-- Blanks give no tokens.
abbrev pub invariant-loop-first : goal.invariant-loop-first
invariant-loop-first l = (tokens_of l.rest ≡ tokens_of l.text) × (length l.rest ≤ length l.text)

abbrev pub decreases-loop-first : goal.decreases-loop-first
decreases-loop-first l = length l.rest
