-- More digits never make a number smaller.
use Rattle.std.proofs.Common.{ℕ, ◌+◌, ◌*◌, ◌≤◌, List, [], ◌∷◌, arith}
use Rattle.std.specs.Str.Parse.{digits_value_after}
use Rattle.std.specs.Char.{digit_value}

at_least : (n radix : ℕ) → 1 ≤ radix → n ≤ n * radix
at_least n radix h = grind arith

pub digits_grow : (radix n : ℕ) (digits : List ℕ) → 1 ≤ radix → n ≤ digits_value_after radix n digits
digits_grow radix n [] h = omega arith
digits_grow radix n (c ∷ digits) h =
    omega (arith, at_least n radix h, digits_grow radix (n * radix + digit_value c) digits h)
