-- Products of words fit 64 bits, and a signed quotient's word is that of the quotient as it wraps.
use Rattle.std.specs.Prelude.{ℕ, ◌-◌, ◌*◌, ◌^◌, ◌<◌, ◌≤◌, pos, ◌*ℤ◌}
use Rattle.std.specs.Int.{w64}
use Rattle.std.specs.Int.RustNames.{FitsSigned, unsigned_abs}
use Rattle.std.proofs.Common.{arith}
use Rattle.std.proofs.Math.Nat.{mul-le-mul_right}
use Rattle.std.proofs.lemmas.Int.{ints, fits_signed_mul}
use Rattle.rv_exec.specs.Arithmetic.{signed_word}

size_of_word : (a : ℕ) → a < 2 ^ 32 → unsigned_abs (signed_word a) ≤ 2 ^ 31
size_of_word a h = grind (arith, ints)

pub product_fits : (a b : ℕ) → a < 2 ^ 32 → b < 2 ^ 32 → FitsSigned w64 (signed_word a *ℤ signed_word b)
product_fits a b h g = fits_signed_mul w64 (signed_word a) (signed_word b) (2 ^ 31) (2 ^ 31) (size_of_word a h) (size_of_word b g) (omega arith)

pub mixed_product_fits : (a b : ℕ) → a < 2 ^ 32 → b < 2 ^ 32 → FitsSigned w64 (signed_word a *ℤ pos b)
mixed_product_fits a b h g = fits_signed_mul w64 (signed_word a) (pos b) (2 ^ 31) (2 ^ 32 - 1) (size_of_word a h) (omega arith) (omega arith)

pub unsigned_product_fits : (a b : ℕ) → a < 2 ^ 32 → b < 2 ^ 32 → a * b < 2 ^ 64
unsigned_product_fits a b h g =
    let below : a ≤ 2 ^ 32 - 1 = omega arith in
    let product : a * b ≤ (2 ^ 32 - 1) * b = mul-le-mul_right b below in
    omega arith
