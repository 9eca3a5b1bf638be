-- Which numbers a field takes.
use Rattle.std.specs.Prelude.{ℕ, ℤ, pos, negsuc, nat_le, int_le, ◌&&◌, Result, Ok, Err, if◌then◌else◌}
use Rattle.std.specs.Int.{Width, cast_unsigned}
use Rattle.asm_lines.specs.declared.fault.FaultKind.{FaultKind}
use Rattle.asm_lines.specs.declared.fault.FaultKind.TheVariants.{Range as OutOfRange}

-- the number, where it is from low to high
unfoldable pub within : ℤ → ℤ → ℤ → Result ℤ FaultKind
within low high n = if int_le low n && int_le n high then Ok n else Err OutOfRange

-- the number, where it is from 0 to high
unfoldable pub up_to : ℕ → ℤ → Result ℕ FaultKind
up_to high (pos n) = if nat_le n high then Ok n else Err OutOfRange
up_to high (negsuc n) = Err OutOfRange

-- the bits of a number that is from low to high, where a negative one stands for itself in two's complement
unfoldable pub bits_within : Width → ℤ → ℕ → ℤ → Result ℕ FaultKind
bits_within width low high (pos n) = up_to high (pos n)
bits_within width low high (negsuc n) = if int_le low (negsuc n) then Ok (cast_unsigned width (negsuc n)) else Err OutOfRange
