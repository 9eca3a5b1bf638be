-- The ranges of the operands that are signed numbers.
use Rattle.std.specs.Prelude.{◌≡◌, ℤ, pos, negsuc, ◌%◌, ◌≤ℤ◌, ◌<ℤ◌, unsigned_abs}

-- a signed immediate of 12 bits
pub record IsImmediate (z : ℤ) : Type 0 where
  pub low : negsuc 2047 ≤ℤ z
  pub high : z <ℤ pos 2048

-- the distance of a branch: 13 bits, even
pub record IsBranchOffset (z : ℤ) : Type 0 where
  pub low : negsuc 4095 ≤ℤ z
  pub high : z <ℤ pos 4096
  pub even : unsigned_abs z % 2 ≡ 0

-- the distance of a jump: 21 bits, even
pub record IsJumpOffset (z : ℤ) : Type 0 where
  pub low : negsuc 1048575 ≤ℤ z
  pub high : z <ℤ pos 1048576
  pub even : unsigned_abs z % 2 ≡ 0
