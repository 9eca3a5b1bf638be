use Rattle.std.proofs.Common.{◌≡◌, ◌<◌, length}
use Rattle.std.specs.Str.Parse.{AllDigits, digits_value_after, digits_value}
use Rattle.run_records.proofs.numbers.numeral.Given as goal

-- The bytes that were passed are digits, and `number` is the number that they write.
abbrev pub invariant-loop-first : goal.invariant-loop-first
invariant-loop-first l =
    (AllDigits 10 l.rest → AllDigits 10 l.digits)
    × (AllDigits 10 l.digits → AllDigits 10 l.rest)
    × (digits_value_after 10 l.number l.rest ≡ digits_value 10 l.digits)
    × (l.number < 18446744073709551616)

abbrev pub decreases-loop-first : goal.decreases-loop-first
decreases-loop-first l = length l.rest
