-- A word in two parts: what `lui` puts into a register's upper bits, and what `addi` adds to it.
-- Source: unprivileged manual, "Integer Computational Instructions" (LUI and ADDI build any constant of 32 bits).
use Rattle.std.specs.Prelude.{ℕ, ◌+◌, ◌/◌, ◌%◌, ◌^◌, ℤ}
use Rattle.rv_isa.specs.Bits.{signed}

-- the low twelve bits, taken signed
unfoldable pub low_part : ℕ → ℤ
low_part word = signed 12 (word % 4096)

-- what is above the low part, one more where that is negative
abbrev pub upper_part : ℕ → ℕ
upper_part word = (word + 2048) / 4096

-- the upper part as `lui` has it: twenty bits
unfoldable pub high_part : ℕ → ℕ
high_part word = upper_part word % 2 ^ 20
