-- What instructions compute from words (unprivileged manual, "Integer Computational Instructions" and
-- "Control Transfer Instructions"). Sums wrap; shifts use the low five bits of their amount.
use Rattle.std.specs.Prelude.{ℕ, ◌+◌, ◌-◌, ◌*◌, ◌/◌, ◌%◌, ◌^◌, ◌==◌, ℤ, pos, ◌*ℤ◌, Bool, true, false, not, nat_lt, nat_le, if◌then◌else◌}
use Rattle.std.specs.Int.{w32, w64, cast_signed, cast_unsigned, int_shr}
use Rattle.std.specs.Int.RustNames.{bit_and, bit_or, bit_xor, int_lt, int_le, int_div, int_rem}
use Rattle.rv_isa.specs.declared.kinds.BranchKind.{BranchKind}
use Rattle.rv_isa.specs.declared.kinds.BranchKind.TheVariants.{Beq, Bne, Blt, Bge, Bltu, Bgeu}
use Rattle.rv_isa.specs.declared.kinds.ImmediateKind.{ImmediateKind}
use Rattle.rv_isa.specs.declared.kinds.ImmediateKind.TheVariants.{Addi, Slti, Sltiu, Xori, Ori, Andi}
use Rattle.rv_isa.specs.declared.kinds.ShiftKind.{ShiftKind}
use Rattle.rv_isa.specs.declared.kinds.ShiftKind.TheVariants.{Slli, Srli, Srai}
use Rattle.rv_isa.specs.declared.kinds.OpKind.{OpKind}
use Rattle.rv_isa.specs.declared.kinds.OpKind.TheVariants.{Add, Sub, Sll, Slt, Sltu, Xor, Srl, Sra, Or, And, Mul, Mulh, Mulhsu, Mulhu, Div, Divu, Rem, Remu}

unfoldable pub word_sum : ℕ → ℕ → ℕ
word_sum a b = (a + b) % 2 ^ 32

unfoldable pub word_difference : ℕ → ℕ → ℕ
word_difference a b = (a + (2 ^ 32 - b)) % 2 ^ 32

-- an address without its lowest bit
unfoldable pub even : ℕ → ℕ
even address = address - address % 2

-- a word as a signed number
abbrev pub signed_word : ℕ → ℤ
signed_word a = cast_signed w32 a

-- the word of a signed number
abbrev pub word_of_signed : ℤ → ℕ
word_of_signed z = cast_unsigned w32 z

abbrev pub one_if : Bool → ℕ
one_if true = 1
one_if false = 0

-- ---- multiplication and division ("M" Extension)

-- the high word of the 64 bits of a signed product
unfoldable pub high_word : ℤ → ℕ
high_word product = cast_unsigned w64 product / 2 ^ 32

-- division rounds toward zero; the quotient by zero has all bits set. The quotient of -2^31 by -1 is 2^31, whose
-- word is that of -2^31
unfoldable pub quotient : ℕ → ℕ → ℕ
quotient a b = if b == 0 then 2 ^ 32 - 1 else word_of_signed (int_div (signed_word a) (signed_word b))

-- a remainder has the sign of the dividend, and the remainder by zero is the dividend
unfoldable pub remainder : ℕ → ℕ → ℕ
remainder a b = if b == 0 then a else word_of_signed (int_rem (signed_word a) (signed_word b))

unfoldable pub unsigned_quotient : ℕ → ℕ → ℕ
unsigned_quotient a b = if b == 0 then 2 ^ 32 - 1 else a / b

unfoldable pub unsigned_remainder : ℕ → ℕ → ℕ
unsigned_remainder a b = if b == 0 then a else a % b

-- ---- operations

-- the result of an operation on two words
unfoldable pub result_of : OpKind → ℕ → ℕ → ℕ
result_of Add a b = word_sum a b
result_of Sub a b = word_difference a b
result_of Sll a b = (a * 2 ^ (b % 32)) % 2 ^ 32
result_of Slt a b = one_if (int_lt (signed_word a) (signed_word b))
result_of Sltu a b = one_if (nat_lt a b)
result_of Xor a b = bit_xor a b
result_of Srl a b = a / 2 ^ (b % 32)
result_of Sra a b = word_of_signed (int_shr (signed_word a) (b % 32))
result_of Or a b = bit_or a b
result_of And a b = bit_and a b
result_of Mul a b = (a * b) % 2 ^ 32
result_of Mulh a b = high_word (signed_word a *ℤ signed_word b)
result_of Mulhsu a b = high_word (signed_word a *ℤ pos b)
result_of Mulhu a b = a * b / 2 ^ 32
result_of Div a b = quotient a b
result_of Divu a b = unsigned_quotient a b
result_of Rem a b = remainder a b
result_of Remu a b = unsigned_remainder a b

-- the same operations with an immediate as the second operand: its sign is extended first
unfoldable pub immediate_operation : ImmediateKind → OpKind
immediate_operation Addi = Add
immediate_operation Slti = Slt
immediate_operation Sltiu = Sltu
immediate_operation Xori = Xor
immediate_operation Ori = Or
immediate_operation Andi = And

unfoldable pub shift_operation : ShiftKind → OpKind
shift_operation Slli = Sll
shift_operation Srli = Srl
shift_operation Srai = Sra

-- whether a branch is taken
unfoldable pub is_taken : BranchKind → ℕ → ℕ → Bool
is_taken Beq a b = a == b
is_taken Bne a b = not (a == b)
is_taken Blt a b = int_lt (signed_word a) (signed_word b)
is_taken Bge a b = int_le (signed_word b) (signed_word a)
is_taken Bltu a b = nat_lt a b
is_taken Bgeu a b = nat_le b a
