-- A number in its range is handed on as it is.
use Rattle.std.proofs.Common.{◌≡◌, ℤ, Ok, arith}
use Rattle.asm_values.specs.Ranges.{within}

pub within_same : (low high n m : ℤ) → within low high n ≡ Ok m → m ≡ n
unfolding within
within_same low high n m is = grind arith
