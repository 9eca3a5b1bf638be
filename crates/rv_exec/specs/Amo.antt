-- What an atomic memory operation stores, of the old word and its operand
-- (unprivileged manual, "Zaamo", Atomic Memory Operations).
use Rattle.std.specs.Prelude.{ℕ, nat_lt, if◌then◌else◌}
use Rattle.std.specs.Int.RustNames.{bit_and, bit_or, bit_xor, int_lt}
use Rattle.rv_exec.specs.Arithmetic.{word_sum, signed_word}
use Rattle.rv_isa.specs.declared.kinds.AmoKind.{AmoKind}
use Rattle.rv_isa.specs.declared.kinds.AmoKind.TheVariants.{Amoadd, Amoswap, Amoxor, Amoor, Amoand, Amomin, Amomax, Amominu, Amomaxu}

unfoldable pub amo_result : AmoKind → ℕ → ℕ → ℕ
amo_result Amoadd old operand = word_sum old operand
amo_result Amoswap old operand = operand
amo_result Amoxor old operand = bit_xor old operand
amo_result Amoor old operand = bit_or old operand
amo_result Amoand old operand = bit_and old operand
amo_result Amomin old operand = if int_lt (signed_word operand) (signed_word old) then operand else old
amo_result Amomax old operand = if int_lt (signed_word old) (signed_word operand) then operand else old
amo_result Amominu old operand = if nat_lt operand old then operand else old
amo_result Amomaxu old operand = if nat_lt old operand then operand else old
