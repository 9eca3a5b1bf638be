use Rattle.std.proofs.Common.{◌≡◌, ◌<◌, length}
use Rattle.std.specs.Str.Parse.{AllDigits, digits_value_after, digits_value}
use Rattle.trace_lines.proofs.number_text.numeral.Given as goal

-- The bytes that were passed are digits, and `id` is the number that they write.
abbrev pub invariant-loop-first : goal.invariant-loop-first
invariant-loop-first l =
    (AllDigits l.radix l.rest → AllDigits l.radix l.digits)
    × (AllDigits l.radix l.digits → AllDigits l.radix l.rest)
    × (digits_value_after l.radix l.id l.rest ≡ digits_value l.radix l.digits)
    × (l.id < 18446744073709551616)

abbrev pub decreases-loop-first : goal.decreases-loop-first
decreases-loop-first l = length l.rest
