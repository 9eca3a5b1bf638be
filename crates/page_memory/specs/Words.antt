-- Words and pages: addresses are 32-bit words, pages have 4096 bytes (privileged manual, Sv32 virtual address).
use Rattle.std.specs.Prelude.{ℕ, ◌/◌, ◌%◌}
use Rattle.page_memory.specs.declared.words.Width.{Width}
use Rattle.page_memory.specs.declared.words.Width.TheVariants.{Byte, Half, Word}

-- bits 31 to 12 of an address
abbrev pub page_number : ℕ → ℕ
page_number address = address / 4096

-- bits 11 to 0 of an address
abbrev pub page_offset : ℕ → ℕ
page_offset address = address % 4096

-- how many bytes a load or a store of this width moves
abbrev pub bytes_in : Width → ℕ
bytes_in Byte = 1
bytes_in Half = 2
bytes_in Word = 4
