-- Numbers as users write them.
use Rattle.std.specs.Prelude.{ℕ, ◌≤◌, List, nat_eq, drop, codes, if◌then◌else◌}
use Rattle.std.specs.List.{starts_with}
use Rattle.std.specs.Str.Parse.{IsNumeral, digits_value}

-- one digit or more and nothing else, which write a number of at most `most`
abbrev pub IsUpTo : ℕ → ℕ → List ℕ → Type 0
IsUpTo most radix text = IsNumeral radix text × (digits_value radix text ≤ most)

-- a number is hexadecimal where it begins with `0x`, and else decimal
abbrev pub radix_of : List ℕ → ℕ
radix_of text = if starts_with nat_eq text (codes "0x") then 16 else 10

abbrev pub digits_of : List ℕ → List ℕ
digits_of text = if starts_with nat_eq text (codes "0x") then drop 2 text else text

abbrev pub IsNumber : ℕ → List ℕ → Type 0
IsNumber most text = IsUpTo most (radix_of text) (digits_of text)

abbrev pub number_value : List ℕ → ℕ
number_value text = digits_value (radix_of text) (digits_of text)
