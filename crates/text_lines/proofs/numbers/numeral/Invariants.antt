use Rattle.std.proofs.Common.{◌≡◌, ◌≤◌, length}
use Rattle.std.specs.Str.Parse.{AllDigits, digits_value_after, digits_value}
use Rattle.text_lines.proofs.numbers.numeral.Given as goal

-- The bytes that were passed are digits, and `value` is the number that they write.
abbrev pub invariant-loop-first : goal.invariant-loop-first
invariant-loop-first l =
    (AllDigits l.radix l.rest → AllDigits l.radix l.text)
    × (AllDigits l.radix l.text → AllDigits l.radix l.rest)
    × (digits_value_after l.radix l.value l.rest ≡ digits_value l.radix l.text)
    × (l.value ≤ l.most)

abbrev pub decreases-loop-first : goal.decreases-loop-first
decreases-loop-first l = length l.rest
