-- The instruction table: which word stands for which instruction.
-- Source: unprivileged manual, "RV32I Base Integer Instruction Set" (the formats and the immediates' places),
-- "M", "A" (Zaamo and Zalrsc), and "RV32/64G Instruction Set Listings" (the codes).
-- Every word that agrees with no instruction here is outside the table, among them the words of FENCE.I, of the CSR
-- instructions, of LR.W with rs2 not 0, and shifts by an immediate amount with bit 25 set.
use Rattle.std.specs.Prelude.{◌≡◌, ℕ, ◌+◌, ◌*◌, ◌^◌, ◌==◌, ℤ, Bool, true, false, ◌&&◌, Option, Some, None, option_map, List, [], ◌∷◌, if◌then◌else◌}
use Rattle.std.specs.Option.{option_or}
use Rattle.std.specs.List.{find}
use Rattle.rv_isa.specs.Bits.{bits, signed}
use Rattle.rv_isa.specs.declared.kinds.BranchKind.{BranchKind}
use Rattle.rv_isa.specs.declared.kinds.BranchKind.TheVariants.{Beq, Bne, Blt, Bge, Bltu, Bgeu}
use Rattle.rv_isa.specs.declared.kinds.ImmediateKind.{ImmediateKind}
use Rattle.rv_isa.specs.declared.kinds.ImmediateKind.TheVariants.{Addi, Slti, Sltiu, Xori, Ori, Andi}
use Rattle.rv_isa.specs.declared.kinds.ShiftKind.{ShiftKind}
use Rattle.rv_isa.specs.declared.kinds.ShiftKind.TheVariants.{Slli, Srli, Srai}
use Rattle.rv_isa.specs.declared.kinds.OpKind.{OpKind}
use Rattle.rv_isa.specs.declared.kinds.OpKind.TheVariants.{Add, Sub, Sll, Slt, Sltu, Xor, Srl, Sra, Or, And, Mul, Mulh, Mulhsu, Mulhu, Div, Divu, Rem, Remu}
use Rattle.rv_isa.specs.declared.kinds.LoadKind.{LoadKind}
use Rattle.rv_isa.specs.declared.kinds.LoadKind.TheVariants.{Lb, Lh, Lw, Lbu, Lhu}
use Rattle.rv_isa.specs.declared.kinds.StoreKind.{StoreKind}
use Rattle.rv_isa.specs.declared.kinds.StoreKind.TheVariants.{Sb, Sh, Sw}
use Rattle.rv_isa.specs.declared.kinds.AmoKind.{AmoKind}
use Rattle.rv_isa.specs.declared.kinds.AmoKind.TheVariants.{Amoadd, Amoswap, Amoxor, Amoor, Amoand, Amomin, Amomax, Amominu, Amomaxu}
use Rattle.rv_isa.specs.declared.kinds.ReservationKind.{ReservationKind}
use Rattle.rv_isa.specs.declared.kinds.ReservationKind.TheVariants.{Lr, Sc}
use Rattle.rv_isa.specs.declared.kinds.Code.{Code}
use Rattle.rv_isa.specs.declared.instruction.Insn.{Insn}
use Rattle.rv_isa.specs.declared.instruction.Insn.TheVariants.{Lui, Auipc, Jal, Jalr, Branch, Load, Store, OpImmediate, Shift, Op, Fence, Amo, LoadReserved, StoreConditional, Ecall, Ebreak}

-- ---- codes

-- funct3 of a branch
abbrev pub branch_code : BranchKind → ℕ
branch_code Beq = 0b000
branch_code Bne = 0b001
branch_code Blt = 0b100
branch_code Bge = 0b101
branch_code Bltu = 0b110
branch_code Bgeu = 0b111

-- funct3 of a load
abbrev pub load_code : LoadKind → ℕ
load_code Lb = 0b000
load_code Lh = 0b001
load_code Lw = 0b010
load_code Lbu = 0b100
load_code Lhu = 0b101

-- funct3 of a store
abbrev pub store_code : StoreKind → ℕ
store_code Sb = 0b000
store_code Sh = 0b001
store_code Sw = 0b010

-- funct3 of an operation with an immediate
abbrev pub immediate_code : ImmediateKind → ℕ
immediate_code Addi = 0b000
immediate_code Slti = 0b010
immediate_code Sltiu = 0b011
immediate_code Xori = 0b100
immediate_code Ori = 0b110
immediate_code Andi = 0b111

-- a shift by an immediate amount
abbrev pub shift_code : ShiftKind → Code
shift_code Slli = record { funct7 = 0b0000000; funct3 = 0b001 }
shift_code Srli = record { funct7 = 0b0000000; funct3 = 0b101 }
shift_code Srai = record { funct7 = 0b0100000; funct3 = 0b101 }

-- an operation on two registers
abbrev pub op_code : OpKind → Code
op_code Add = record { funct7 = 0b0000000; funct3 = 0b000 }
op_code Sub = record { funct7 = 0b0100000; funct3 = 0b000 }
op_code Sll = record { funct7 = 0b0000000; funct3 = 0b001 }
op_code Slt = record { funct7 = 0b0000000; funct3 = 0b010 }
op_code Sltu = record { funct7 = 0b0000000; funct3 = 0b011 }
op_code Xor = record { funct7 = 0b0000000; funct3 = 0b100 }
op_code Srl = record { funct7 = 0b0000000; funct3 = 0b101 }
op_code Sra = record { funct7 = 0b0100000; funct3 = 0b101 }
op_code Or = record { funct7 = 0b0000000; funct3 = 0b110 }
op_code And = record { funct7 = 0b0000000; funct3 = 0b111 }
op_code Mul = record { funct7 = 0b0000001; funct3 = 0b000 }
op_code Mulh = record { funct7 = 0b0000001; funct3 = 0b001 }
op_code Mulhsu = record { funct7 = 0b0000001; funct3 = 0b010 }
op_code Mulhu = record { funct7 = 0b0000001; funct3 = 0b011 }
op_code Div = record { funct7 = 0b0000001; funct3 = 0b100 }
op_code Divu = record { funct7 = 0b0000001; funct3 = 0b101 }
op_code Rem = record { funct7 = 0b0000001; funct3 = 0b110 }
op_code Remu = record { funct7 = 0b0000001; funct3 = 0b111 }

-- funct5 of an atomic memory operation
abbrev pub amo_code : AmoKind → ℕ
amo_code Amoadd = 0b00000
amo_code Amoswap = 0b00001
amo_code Amoxor = 0b00100
amo_code Amoor = 0b01000
amo_code Amoand = 0b01100
amo_code Amomin = 0b10000
amo_code Amomax = 0b10100
amo_code Amominu = 0b11000
amo_code Amomaxu = 0b11100

-- a flag of one bit
abbrev pub flag_code : Bool → ℕ
flag_code true = 1
flag_code false = 0

-- ---- immediates: where a word keeps their bits

abbrev pub i_immediate : ℕ → ℤ
i_immediate word = signed 12 (bits word 31 20)

abbrev pub s_immediate : ℕ → ℤ
s_immediate word = signed 12 (bits word 31 25 * 2 ^ 5 + bits word 11 7)

abbrev pub b_immediate : ℕ → ℤ
b_immediate word =
    signed 13 (bits word 31 31 * 2 ^ 12 + bits word 7 7 * 2 ^ 11 + bits word 30 25 * 2 ^ 5 + bits word 11 8 * 2)

abbrev pub u_immediate : ℕ → ℕ
u_immediate word = bits word 31 12

abbrev pub j_immediate : ℕ → ℤ
j_immediate word =
    signed 21 (bits word 31 31 * 2 ^ 20 + bits word 19 12 * 2 ^ 12 + bits word 20 20 * 2 ^ 11 + bits word 30 21 * 2)

-- ---- formats: a word whose opcode, codes and operands are these

pub record IsRFormat (word opcode : ℕ) (code : Code) (rd rs1 rs2 : ℕ) : Type 0 where
  pub in_6_0 : bits word 6 0 ≡ opcode
  pub in_11_7 : bits word 11 7 ≡ rd
  pub in_14_12 : bits word 14 12 ≡ code.funct3
  pub in_19_15 : bits word 19 15 ≡ rs1
  pub in_24_20 : bits word 24 20 ≡ rs2
  pub in_31_25 : bits word 31 25 ≡ code.funct7

pub record IsIFormat (word opcode funct3 rd rs1 : ℕ) (immediate : ℤ) : Type 0 where
  pub in_6_0 : bits word 6 0 ≡ opcode
  pub in_11_7 : bits word 11 7 ≡ rd
  pub in_14_12 : bits word 14 12 ≡ funct3
  pub in_19_15 : bits word 19 15 ≡ rs1
  pub in_31_20 : i_immediate word ≡ immediate

pub record IsSFormat (word opcode funct3 rs1 rs2 : ℕ) (immediate : ℤ) : Type 0 where
  pub in_6_0 : bits word 6 0 ≡ opcode
  pub in_14_12 : bits word 14 12 ≡ funct3
  pub in_19_15 : bits word 19 15 ≡ rs1
  pub in_24_20 : bits word 24 20 ≡ rs2
  pub in_31_25_11_7 : s_immediate word ≡ immediate

pub record IsBFormat (word opcode funct3 rs1 rs2 : ℕ) (offset : ℤ) : Type 0 where
  pub in_6_0 : bits word 6 0 ≡ opcode
  pub in_14_12 : bits word 14 12 ≡ funct3
  pub in_19_15 : bits word 19 15 ≡ rs1
  pub in_24_20 : bits word 24 20 ≡ rs2
  pub in_31_25_11_7 : b_immediate word ≡ offset

pub record IsUFormat (word opcode rd immediate : ℕ) : Type 0 where
  pub in_6_0 : bits word 6 0 ≡ opcode
  pub in_11_7 : bits word 11 7 ≡ rd
  pub in_31_12 : u_immediate word ≡ immediate

pub record IsJFormat (word opcode rd : ℕ) (offset : ℤ) : Type 0 where
  pub in_6_0 : bits word 6 0 ≡ opcode
  pub in_11_7 : bits word 11 7 ≡ rd
  pub in_31_12 : j_immediate word ≡ offset

-- a fence keeps its upper bits, rd and rs1, and none of them changes what it does
pub record IsFenceFormat (word opcode funct3 kept rd rs1 : ℕ) : Type 0 where
  pub in_6_0 : bits word 6 0 ≡ opcode
  pub in_11_7 : bits word 11 7 ≡ rd
  pub in_14_12 : bits word 14 12 ≡ funct3
  pub in_19_15 : bits word 19 15 ≡ rs1
  pub in_31_20 : bits word 31 20 ≡ kept

-- the R format with funct7 in three parts
pub record IsAmoFormat (word opcode funct5 acquire release funct3 rd rs1 rs2 : ℕ) : Type 0 where
  pub in_6_0 : bits word 6 0 ≡ opcode
  pub in_11_7 : bits word 11 7 ≡ rd
  pub in_14_12 : bits word 14 12 ≡ funct3
  pub in_19_15 : bits word 19 15 ≡ rs1
  pub in_24_20 : bits word 24 20 ≡ rs2
  pub in_25 : bits word 25 25 ≡ release
  pub in_26 : bits word 26 26 ≡ acquire
  pub in_31_27 : bits word 31 27 ≡ funct5

-- ---- the table

-- the word stands for the instruction: one line of the table has its fixed bits in the word, and the operands
-- in their places
unfoldable pub Agrees : ℕ → Insn → Type 0
Agrees word (Lui rd immediate) = IsUFormat word 0b0110111 rd immediate
Agrees word (Auipc rd immediate) = IsUFormat word 0b0010111 rd immediate
Agrees word (Jal rd offset) = IsJFormat word 0b1101111 rd offset
Agrees word (Jalr rd rs1 offset) = IsIFormat word 0b1100111 0b000 rd rs1 offset
Agrees word (Branch kind rs1 rs2 offset) = IsBFormat word 0b1100011 (branch_code kind) rs1 rs2 offset
Agrees word (Load kind rd rs1 offset) = IsIFormat word 0b0000011 (load_code kind) rd rs1 offset
Agrees word (Store kind rs1 rs2 offset) = IsSFormat word 0b0100011 (store_code kind) rs1 rs2 offset
Agrees word (OpImmediate kind rd rs1 immediate) = IsIFormat word 0b0010011 (immediate_code kind) rd rs1 immediate
Agrees word (Shift kind rd rs1 amount) = IsRFormat word 0b0010011 (shift_code kind) rd rs1 amount
Agrees word (Op kind rd rs1 rs2) = IsRFormat word 0b0110011 (op_code kind) rd rs1 rs2
Agrees word (Fence kept rd rs1) = IsFenceFormat word 0b0001111 0b000 kept rd rs1
Agrees word (Amo kind acquire release rd rs1 rs2) =
    IsAmoFormat word 0b0101111 (amo_code kind) (flag_code acquire) (flag_code release) 0b010 rd rs1 rs2
Agrees word (LoadReserved acquire release rd rs1) =
    IsAmoFormat word 0b0101111 0b00010 (flag_code acquire) (flag_code release) 0b010 rd rs1 0
Agrees word (StoreConditional acquire release rd rs1 rs2) =
    IsAmoFormat word 0b0101111 0b00011 (flag_code acquire) (flag_code release) 0b010 rd rs1 rs2
Agrees word Ecall = word ≡ 0x00000073
Agrees word Ebreak = word ≡ 0x00100073

-- ---- the table as a function from words

abbrev pub branch_kinds : List BranchKind
branch_kinds = Beq ∷ Bne ∷ Blt ∷ Bge ∷ Bltu ∷ Bgeu ∷ []

abbrev pub load_kinds : List LoadKind
load_kinds = Lb ∷ Lh ∷ Lw ∷ Lbu ∷ Lhu ∷ []

abbrev pub store_kinds : List StoreKind
store_kinds = Sb ∷ Sh ∷ Sw ∷ []

abbrev pub immediate_kinds : List ImmediateKind
immediate_kinds = Addi ∷ Slti ∷ Sltiu ∷ Xori ∷ Ori ∷ Andi ∷ []

abbrev pub shift_kinds : List ShiftKind
shift_kinds = Slli ∷ Srli ∷ Srai ∷ []

abbrev pub op_kinds : List OpKind
op_kinds =
    Add ∷ Sub ∷ Sll ∷ Slt ∷ Sltu ∷ Xor ∷ Srl ∷ Sra ∷ Or ∷ And
    ∷ Mul ∷ Mulh ∷ Mulhsu ∷ Mulhu ∷ Div ∷ Divu ∷ Rem ∷ Remu ∷ []

abbrev pub amo_kinds : List AmoKind
amo_kinds = Amoadd ∷ Amoswap ∷ Amoxor ∷ Amoor ∷ Amoand ∷ Amomin ∷ Amomax ∷ Amominu ∷ Amomaxu ∷ []

abbrev pub reservation_kinds : List ReservationKind
reservation_kinds = Lr ∷ Sc ∷ []

-- whether a code has these parts
abbrev pub has_parts : Code → ℕ → ℕ → Bool
has_parts code funct7 funct3 = code.funct7 == funct7 && code.funct3 == funct3

-- whether a kind has this funct5 and this rs2, which is 0 in LR.W
abbrev pub has_reservation_codes : ReservationKind → ℕ → ℕ → Bool
has_reservation_codes Lr funct5 rs2 = 0b00010 == funct5 && 0 == rs2
has_reservation_codes Sc funct5 rs2 = 0b00011 == funct5

-- the kind that has these codes
unfoldable pub branch_kind : ℕ → Option BranchKind
branch_kind funct3 = find (λ kind. branch_code kind == funct3) branch_kinds

unfoldable pub load_kind : ℕ → Option LoadKind
load_kind funct3 = find (λ kind. load_code kind == funct3) load_kinds

unfoldable pub store_kind : ℕ → Option StoreKind
store_kind funct3 = find (λ kind. store_code kind == funct3) store_kinds

unfoldable pub immediate_kind : ℕ → Option ImmediateKind
immediate_kind funct3 = find (λ kind. immediate_code kind == funct3) immediate_kinds

unfoldable pub shift_kind : ℕ → ℕ → Option ShiftKind
shift_kind funct7 funct3 = find (λ kind. has_parts (shift_code kind) funct7 funct3) shift_kinds

unfoldable pub op_kind : ℕ → ℕ → Option OpKind
op_kind funct7 funct3 = find (λ kind. has_parts (op_code kind) funct7 funct3) op_kinds

unfoldable pub amo_kind : ℕ → ℕ → Option AmoKind
amo_kind funct5 funct3 = if funct3 == 0b010 then find (λ kind. amo_code kind == funct5) amo_kinds else None

unfoldable pub reservation_kind : ℕ → ℕ → ℕ → Option ReservationKind
reservation_kind funct5 rs2 funct3 =
    if funct3 == 0b010 then find (λ kind. has_reservation_codes kind funct5 rs2) reservation_kinds else None

-- the instruction that a word of an opcode stands for
unfoldable pub jalr_of : ℕ → Option Insn
jalr_of word =
    if bits word 14 12 == 0b000 then Some (Jalr (bits word 11 7) (bits word 19 15) (i_immediate word)) else None

unfoldable pub branch_of : ℕ → Option Insn
branch_of word =
    option_map (λ kind. Branch kind (bits word 19 15) (bits word 24 20) (b_immediate word))
    (branch_kind (bits word 14 12))

unfoldable pub load_of : ℕ → Option Insn
load_of word =
    option_map (λ kind. Load kind (bits word 11 7) (bits word 19 15) (i_immediate word)) (load_kind (bits word 14 12))

unfoldable pub store_of : ℕ → Option Insn
store_of word =
    option_map (λ kind. Store kind (bits word 19 15) (bits word 24 20) (s_immediate word))
    (store_kind (bits word 14 12))

unfoldable pub shift_of : ℕ → Option Insn
shift_of word =
    option_map (λ kind. Shift kind (bits word 11 7) (bits word 19 15) (bits word 24 20))
    (shift_kind (bits word 31 25) (bits word 14 12))

unfoldable pub op_immediate_of : ℕ → Option Insn
op_immediate_of word =
    option_or
    (option_map (λ kind. OpImmediate kind (bits word 11 7) (bits word 19 15) (i_immediate word))
    (immediate_kind (bits word 14 12)))
    (shift_of word)

unfoldable pub op_of : ℕ → Option Insn
op_of word =
    option_map (λ kind. Op kind (bits word 11 7) (bits word 19 15) (bits word 24 20))
    (op_kind (bits word 31 25) (bits word 14 12))

unfoldable pub fence_of : ℕ → Option Insn
fence_of word =
    if bits word 14 12 == 0b000 then Some (Fence (bits word 31 20) (bits word 11 7) (bits word 19 15)) else None

abbrev pub reservation_insn : ℕ → ReservationKind → Insn
reservation_insn word Lr =
    LoadReserved (bits word 26 26 == 1) (bits word 25 25 == 1) (bits word 11 7) (bits word 19 15)
reservation_insn word Sc =
    StoreConditional (bits word 26 26 == 1) (bits word 25 25 == 1) (bits word 11 7) (bits word 19 15) (bits word 24 20)

unfoldable pub reservation_of : ℕ → Option Insn
reservation_of word =
    option_map (reservation_insn word) (reservation_kind (bits word 31 27) (bits word 24 20) (bits word 14 12))

unfoldable pub amo_of : ℕ → Option Insn
amo_of word =
    option_or
    (option_map
    (λ kind. Amo kind (bits word 26 26 == 1) (bits word 25 25 == 1) (bits word 11 7) (bits word 19 15) (bits word 24 20))
    (amo_kind (bits word 31 27) (bits word 14 12)))
    (reservation_of word)

unfoldable pub system_of : ℕ → Option Insn
system_of word = if word == 0x00000073 then Some Ecall else if word == 0x00100073 then Some Ebreak else None

-- the opcodes of memory, arithmetic and the system
unfoldable pub operation_of : ℕ → Option Insn
operation_of word =
    if bits word 6 0 == 0b0000011 then load_of word
    else if bits word 6 0 == 0b0100011 then store_of word
    else if bits word 6 0 == 0b0010011 then op_immediate_of word
    else if bits word 6 0 == 0b0110011 then op_of word
    else if bits word 6 0 == 0b0001111 then fence_of word
    else if bits word 6 0 == 0b0101111 then amo_of word
    else if bits word 6 0 == 0b1110011 then system_of word
    else None

-- the instruction that a word stands for, if it is in the table
unfoldable pub insn_of : ℕ → Option Insn
insn_of word =
    if bits word 6 0 == 0b0110111 then Some (Lui (bits word 11 7) (u_immediate word))
    else if bits word 6 0 == 0b0010111 then Some (Auipc (bits word 11 7) (u_immediate word))
    else if bits word 6 0 == 0b1101111 then Some (Jal (bits word 11 7) (j_immediate word))
    else if bits word 6 0 == 0b1100111 then jalr_of word
    else if bits word 6 0 == 0b1100011 then branch_of word
    else operation_of word
