use Rattle.std.proofs.Common.{◌≡◌, ◌≤◌, length}
use Rattle.asm_lines.specs.Numbers.{too_large}
use Rattle.asm_lines.proofs.Numerals.{numeral_behind}
use Rattle.asm_lines.proofs.numbers.saturating_numeral.Given as goal

-- The bytes that were passed are digits, and `value` is what they write.
abbrev pub invariant-loop-first : goal.invariant-loop-first
invariant-loop-first l =
    (numeral_behind too_large l.radix l.value l.rest ≡ numeral_behind too_large l.radix 0 l.digits) × (l.value ≤ too_large)

abbrev pub decreases-loop-first : goal.decreases-loop-first
decreases-loop-first l = length l.rest
