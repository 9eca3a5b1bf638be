-- How much the parts take that directives put into the data.
use Rattle.std.specs.Prelude.{ℕ}
use Rattle.asm_values.specs.declared.datum.Datum.{Datum}
use Rattle.asm_values.specs.declared.datum.Datum.TheVariants.{Word, Pointer, Half, Byte, Zeros}

-- how many bytes a part of the data takes
abbrev pub datum_length : Datum → ℕ
datum_length (Word number) = 4
datum_length (Pointer label) = 4
datum_length (Half number) = 2
datum_length (Byte number) = 1
datum_length (Zeros count) = count
