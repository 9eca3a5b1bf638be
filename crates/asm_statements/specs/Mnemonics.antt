-- The names of the statements.
-- Source: unprivileged manual, "RV32/64G Instruction Set Listings"; assembly programmer's manual, "Pseudoinstructions".
use Rattle.std.specs.Prelude.{ℕ, Bool, true, false, List, [], ◌∷◌, ◌==◌, Option, option_map, codes}
use Rattle.std.specs.Option.{option_or, option_zip}
use Rattle.std.specs.List.{before_first, after_first}
use Rattle.asm_values.specs.Names.{named}
use Rattle.rv_isa.specs.declared.kinds.OpKind.TheVariants.{Add, Sub, Sll, Slt, Sltu, Xor, Srl, Sra, Or, And, Mul, Mulh, Mulhsu, Mulhu, Div, Divu, Rem, Remu}
use Rattle.rv_isa.specs.declared.kinds.ImmediateKind.TheVariants.{Addi, Slti, Sltiu, Xori, Ori, Andi}
use Rattle.rv_isa.specs.declared.kinds.ShiftKind.TheVariants.{Slli, Srli, Srai}
use Rattle.rv_isa.specs.declared.kinds.LoadKind.TheVariants.{Lb, Lh, Lw, Lbu, Lhu}
use Rattle.rv_isa.specs.declared.kinds.StoreKind.TheVariants.{Sb, Sh, Sw}
use Rattle.rv_isa.specs.declared.kinds.BranchKind.TheVariants.{Beq, Bne, Blt, Bge, Bltu, Bgeu}
use Rattle.rv_isa.specs.declared.kinds.AmoKind.{AmoKind}
use Rattle.rv_isa.specs.declared.kinds.AmoKind.TheVariants.{Amoadd, Amoswap, Amoxor, Amoor, Amoand, Amomin, Amomax, Amominu, Amomaxu}
use Rattle.rv_isa.specs.declared.kinds.ReservationKind.{ReservationKind}
use Rattle.rv_isa.specs.declared.kinds.ReservationKind.TheVariants.{Lr, Sc}
use Rattle.asm_statements.specs.declared.mnemonic.Mnemonic.{Mnemonic}
use Rattle.asm_statements.specs.declared.mnemonic.Mnemonic.TheVariants.{Op, OpImmediate, Shift, Load, Store, Branch, Lui, Auipc, Jal, Jalr, Fence, Ecall, Ebreak, Amo, Reservation, Nop, LoadAddress, Move, Jump, Call, JumpRegister, Return, BranchZero}

-- instructions with one name, then pseudo-instructions
abbrev pub mnemonics : List (List ℕ × Mnemonic)
mnemonics =
    (codes "add", Op Add) ∷ (codes "sub", Op Sub) ∷ (codes "sll", Op Sll) ∷ (codes "slt", Op Slt)
    ∷ (codes "sltu", Op Sltu) ∷ (codes "xor", Op Xor) ∷ (codes "srl", Op Srl) ∷ (codes "sra", Op Sra)
    ∷ (codes "or", Op Or) ∷ (codes "and", Op And) ∷ (codes "mul", Op Mul) ∷ (codes "mulh", Op Mulh)
    ∷ (codes "mulhsu", Op Mulhsu) ∷ (codes "mulhu", Op Mulhu) ∷ (codes "div", Op Div) ∷ (codes "divu", Op Divu)
    ∷ (codes "rem", Op Rem) ∷ (codes "remu", Op Remu)
    ∷ (codes "addi", OpImmediate Addi) ∷ (codes "slti", OpImmediate Slti) ∷ (codes "sltiu", OpImmediate Sltiu) ∷ (codes "xori", OpImmediate Xori)
    ∷ (codes "ori", OpImmediate Ori) ∷ (codes "andi", OpImmediate Andi)
    ∷ (codes "slli", Shift Slli) ∷ (codes "srli", Shift Srli) ∷ (codes "srai", Shift Srai)
    ∷ (codes "lb", Load Lb) ∷ (codes "lh", Load Lh) ∷ (codes "lw", Load Lw) ∷ (codes "lbu", Load Lbu)
    ∷ (codes "lhu", Load Lhu)
    ∷ (codes "sb", Store Sb) ∷ (codes "sh", Store Sh) ∷ (codes "sw", Store Sw)
    ∷ (codes "beq", Branch Beq) ∷ (codes "bne", Branch Bne) ∷ (codes "blt", Branch Blt) ∷ (codes "bge", Branch Bge)
    ∷ (codes "bltu", Branch Bltu) ∷ (codes "bgeu", Branch Bgeu)
    ∷ (codes "lui", Lui) ∷ (codes "auipc", Auipc) ∷ (codes "jal", Jal) ∷ (codes "jalr", Jalr)
    ∷ (codes "fence", Fence) ∷ (codes "ecall", Ecall) ∷ (codes "ebreak", Ebreak)
    ∷ (codes "nop", Nop) ∷ (codes "la", LoadAddress) ∷ (codes "mv", Move)
    ∷ (codes "j", Jump) ∷ (codes "call", Call) ∷ (codes "jr", JumpRegister) ∷ (codes "ret", Return)
    ∷ (codes "beqz", BranchZero Beq) ∷ (codes "bnez", BranchZero Bne)
    ∷ []

-- atomic memory operations, up to the point in their names
abbrev pub amo_names : List (List ℕ × AmoKind)
amo_names =
    (codes "amoadd", Amoadd) ∷ (codes "amoswap", Amoswap) ∷ (codes "amoxor", Amoxor) ∷ (codes "amoor", Amoor)
    ∷ (codes "amoand", Amoand) ∷ (codes "amomin", Amomin) ∷ (codes "amomax", Amomax) ∷ (codes "amominu", Amominu)
    ∷ (codes "amomaxu", Amomaxu)
    ∷ []

-- the instructions on a reservation, up to the point in their names
abbrev pub reservation_names : List (List ℕ × ReservationKind)
reservation_names = (codes "lr", Lr) ∷ (codes "sc", Sc) ∷ []

-- what follows the point: whether it acquires, and whether it releases
abbrev pub orderings : List (List ℕ × (Bool × Bool))
orderings =
    (codes "w", (false, false)) ∷ (codes "w.aq", (true, false)) ∷ (codes "w.rl", (false, true))
    ∷ (codes "w.aqrl", (true, true)) ∷ []

abbrev pub is_point : ℕ → Bool
is_point byte = byte == 46

-- an atomic memory operation
unfoldable pub amo_mnemonic : List ℕ → Option Mnemonic
amo_mnemonic name =
    option_map (λ found. Amo found.0 found.1.0 found.1.1)
    (option_zip (named amo_names (before_first is_point name)) (named orderings (after_first is_point name)))

-- `lr.w` or `sc.w`
unfoldable pub reservation_mnemonic : List ℕ → Option Mnemonic
reservation_mnemonic name =
    option_map (λ found. Reservation found.0 found.1.0 found.1.1)
    (option_zip (named reservation_names (before_first is_point name)) (named orderings (after_first is_point name)))

-- an instruction or a pseudo-instruction
unfoldable pub mnemonic_of : List ℕ → Option Mnemonic
mnemonic_of name = option_or (option_or (named mnemonics name) (amo_mnemonic name)) (reservation_mnemonic name)
