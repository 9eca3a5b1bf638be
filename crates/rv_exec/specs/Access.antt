-- What loads and stores move, and what a loaded number fills a register with
-- (unprivileged manual, "Load and Store Instructions").
use Rattle.std.specs.Prelude.{ℕ, ◌%◌, ◌^◌}
use Rattle.std.specs.Int.{w8, w16, cast_signed}
use Rattle.page_memory.specs.declared.words.Width.{Width}
use Rattle.page_memory.specs.declared.words.Width.TheVariants.{Byte, Half, Word}
use Rattle.rv_isa.specs.declared.kinds.LoadKind.{LoadKind}
use Rattle.rv_isa.specs.declared.kinds.LoadKind.TheVariants.{Lb, Lh, Lw, Lbu, Lhu}
use Rattle.rv_isa.specs.declared.kinds.StoreKind.{StoreKind}
use Rattle.rv_isa.specs.declared.kinds.StoreKind.TheVariants.{Sb, Sh, Sw}
use Rattle.rv_exec.specs.Arithmetic.{word_of_signed}

abbrev pub load_width : LoadKind → Width
load_width Lb = Byte
load_width Lh = Half
load_width Lw = Word
load_width Lbu = Byte
load_width Lhu = Half

abbrev pub store_width : StoreKind → Width
store_width Sb = Byte
store_width Sh = Half
store_width Sw = Word

-- LB and LH extend the sign of what they load, the others have zeros above it
unfoldable pub extended : LoadKind → ℕ → ℕ
extended Lb number = word_of_signed (cast_signed w8 (number % 2 ^ 8))
extended Lh number = word_of_signed (cast_signed w16 (number % 2 ^ 16))
extended Lw number = number
extended Lbu number = number
extended Lhu number = number
