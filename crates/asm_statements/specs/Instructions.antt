-- What a statement of the text puts there, by its operands.
-- Source: unprivileged manual, "RV32/64G Instruction Set Listings"; assembly programmer's manual, "Pseudoinstructions".
use Rattle.std.specs.Prelude.{ℕ, Bool, ℤ, pos, negsuc, List, [], ◌∷◌, Result, Ok, Err, is_ok, if◌then◌else◌}
use Rattle.std.specs.Int.{w32}
use Rattle.rv_isa.specs.declared.kinds.OpKind.{OpKind}
use Rattle.rv_isa.specs.declared.kinds.ImmediateKind.{ImmediateKind}
use Rattle.rv_isa.specs.declared.kinds.ShiftKind.{ShiftKind}
use Rattle.rv_isa.specs.declared.kinds.LoadKind.{LoadKind}
use Rattle.rv_isa.specs.declared.kinds.StoreKind.{StoreKind}
use Rattle.rv_isa.specs.declared.kinds.BranchKind.{BranchKind}
use Rattle.rv_isa.specs.declared.kinds.AmoKind.{AmoKind}
use Rattle.rv_isa.specs.declared.kinds.ReservationKind.{ReservationKind}
use Rattle.rv_isa.specs.declared.kinds.ReservationKind.TheVariants.{Lr, Sc}
use Rattle.rv_isa.specs.declared.kinds.ImmediateKind.TheVariants.{Addi}
use Rattle.rv_isa.specs.declared.instruction.Insn.{Insn}
use Rattle.rv_isa.specs.declared.instruction.Insn.TheVariants as insn
use Rattle.asm_lines.specs.declared.operand.Operand.{Operand}
use Rattle.asm_statements.specs.declared.part.CodePart.{CodePart}
use Rattle.asm_statements.specs.declared.part.CodePart.TheVariants as code
use Rattle.asm_lines.specs.declared.fault.FaultKind.{FaultKind}
use Rattle.asm_lines.specs.declared.fault.FaultKind.TheVariants.{Operand as BadOperand}
use Rattle.asm_statements.specs.declared.mnemonic.Mnemonic.{Mnemonic}
use Rattle.asm_statements.specs.declared.mnemonic.Mnemonic.TheVariants.{Op, OpImmediate, Shift, Load, Store, Branch, Lui, Auipc, Jal, Jalr, Fence, Ecall, Ebreak, Amo, Reservation, Nop, LoadAddress, Move, Jump, Call, JumpRegister, Return, BranchZero}
use Rattle.asm_values.specs.Answers.{given, map_ok}
use Rattle.asm_values.specs.Ranges.{within, up_to, bits_within}
use Rattle.asm_statements.specs.Shapes.{one_register, two_registers, three_registers, two_registers_number, register_number, number_two_registers, register_indexed, register_indirect, two_registers_indirect, one_label, register_label, two_registers_label}
use Rattle.rv_isa.specs.Split.{low_part, high_part}

-- ---- instructions

-- `add rd, rs1, rs2`
unfoldable pub op : OpKind → List Operand → Result Insn FaultKind
op kind operands = given (three_registers operands) (λ r. Ok (insn.Op kind r.0 r.1 r.2))

-- `addi rd, rs1, n`
unfoldable pub op_immediate : ImmediateKind → List Operand → Result Insn FaultKind
op_immediate kind operands =
    given (two_registers_number operands)
    (λ r. map_ok (λ n. insn.OpImmediate kind r.0 r.1 n) (within (negsuc 2047) (pos 2047) r.2))

-- `slli rd, rs1, n`
unfoldable pub shift : ShiftKind → List Operand → Result Insn FaultKind
shift kind operands =
    given (two_registers_number operands) (λ r. map_ok (λ n. insn.Shift kind r.0 r.1 n) (up_to 31 r.2))

-- `lw rd, n(rs1)`
unfoldable pub load : LoadKind → List Operand → Result Insn FaultKind
load kind operands =
    given (register_indexed operands)
    (λ r. map_ok (λ n. insn.Load kind r.0 r.1.1 n) (within (negsuc 2047) (pos 2047) r.1.0))

-- `sw rs2, n(rs1)`
unfoldable pub store : StoreKind → List Operand → Result Insn FaultKind
store kind operands =
    given (register_indexed operands)
    (λ r. map_ok (λ n. insn.Store kind r.1.1 r.0 n) (within (negsuc 2047) (pos 2047) r.1.0))

-- `jalr rd, n(rs1)`
unfoldable pub jalr : List Operand → Result Insn FaultKind
jalr operands =
    given (register_indexed operands)
    (λ r. map_ok (λ n. insn.Jalr r.0 r.1.1 n) (within (negsuc 2047) (pos 2047) r.1.0))

-- `lui rd, n`
unfoldable pub lui : List Operand → Result Insn FaultKind
lui operands = given (register_number operands) (λ r. map_ok (λ n. insn.Lui r.0 n) (up_to 0xFFFFF r.1))

-- `auipc rd, n`
unfoldable pub auipc : List Operand → Result Insn FaultKind
auipc operands = given (register_number operands) (λ r. map_ok (λ n. insn.Auipc r.0 n) (up_to 0xFFFFF r.1))

-- `fence` orders everything before it ahead of everything after it; or `fence n, rd, rs1`
unfoldable pub fence : List Operand → Result Insn FaultKind
fence [] = Ok (insn.Fence 0xFF 0 0)
fence (first ∷ rest) =
    given (number_two_registers (first ∷ rest)) (λ r. map_ok (λ bits. insn.Fence bits r.1 r.2) (up_to 4095 r.0))

-- `amoadd.w rd, rs2, (rs1)`
unfoldable pub amo : AmoKind → Bool → Bool → List Operand → Result Insn FaultKind
amo kind acquire release operands =
    given (two_registers_indirect operands) (λ r. Ok (insn.Amo kind acquire release r.0 r.2 r.1))

-- `lr.w rd, (rs1)`, or `sc.w rd, rs2, (rs1)`
unfoldable pub reservation : ReservationKind → Bool → Bool → List Operand → Result Insn FaultKind
reservation Lr acquire release operands =
    given (register_indirect operands) (λ r. Ok (insn.LoadReserved acquire release r.0 r.1))
reservation Sc acquire release operands =
    given (two_registers_indirect operands) (λ r. Ok (insn.StoreConditional acquire release r.0 r.2 r.1))

-- an instruction with no operands
unfoldable pub alone : Insn → List Operand → Result Insn FaultKind
alone whole [] = Ok whole
alone whole _ = Err BadOperand

-- `mv rd, rs1`
unfoldable pub copied : List Operand → Result Insn FaultKind
copied operands = given (two_registers operands) (λ r. Ok (insn.OpImmediate Addi r.0 r.1 (pos 0)))

-- `jr rs1`
unfoldable pub jump_register : List Operand → Result Insn FaultKind
jump_register operands = given (one_register operands) (λ rs1. Ok (insn.Jalr 0 rs1 (pos 0)))

-- ---- what goes to a label

-- `la rd, label`
unfoldable pub load_address : List Operand → Result CodePart FaultKind
load_address operands = given (register_label operands) (λ r. Ok (code.LoadAddress r.0 r.1))

-- `jal rd, label`
unfoldable pub jal : List Operand → Result CodePart FaultKind
jal operands = given (register_label operands) (λ r. Ok (code.Jump r.0 r.1))

-- `j label` and `call label`, which link to a register of their own
unfoldable pub jump : ℕ → List Operand → Result CodePart FaultKind
jump link operands = given (one_label operands) (λ target. Ok (code.Jump link target))

-- `beq rs1, rs2, label`
unfoldable pub branch : BranchKind → List Operand → Result CodePart FaultKind
branch kind operands = given (two_registers_label operands) (λ r. Ok (code.Branch kind r.0 r.1 r.2))

-- `beqz rs1, label`
unfoldable pub branch_zero : BranchKind → List Operand → Result CodePart FaultKind
branch_zero kind operands = given (register_label operands) (λ r. Ok (code.Branch kind r.0 0 r.1))

-- ---- all of them

unfoldable pub code_of : Mnemonic → List Operand → Result CodePart FaultKind
code_of (Op kind) operands = map_ok code.Fixed (op kind operands)
code_of (OpImmediate kind) operands = map_ok code.Fixed (op_immediate kind operands)
code_of (Shift kind) operands = map_ok code.Fixed (shift kind operands)
code_of (Load kind) operands = map_ok code.Fixed (load kind operands)
code_of (Store kind) operands = map_ok code.Fixed (store kind operands)
code_of (Branch kind) operands = branch kind operands
code_of Lui operands = map_ok code.Fixed (lui operands)
code_of Auipc operands = map_ok code.Fixed (auipc operands)
code_of Jal operands = jal operands
code_of Jalr operands = map_ok code.Fixed (jalr operands)
code_of Fence operands = map_ok code.Fixed (fence operands)
code_of Ecall operands = map_ok code.Fixed (alone insn.Ecall operands)
code_of Ebreak operands = map_ok code.Fixed (alone insn.Ebreak operands)
code_of (Amo kind acquire release) operands = map_ok code.Fixed (amo kind acquire release operands)
code_of (Reservation kind acquire release) operands = map_ok code.Fixed (reservation kind acquire release operands)
code_of Nop operands = map_ok code.Fixed (alone (insn.OpImmediate Addi 0 0 (pos 0)) operands)
code_of LoadAddress operands = load_address operands
code_of Move operands = map_ok code.Fixed (copied operands)
code_of Jump operands = jump 0 operands
code_of Call operands = jump 1 operands
code_of JumpRegister operands = map_ok code.Fixed (jump_register operands)
code_of Return operands = map_ok code.Fixed (alone (insn.Jalr 0 1 (pos 0)) operands)
code_of (BranchZero kind) operands = branch_zero kind operands

-- ---- li

-- one `addi` for a number that it takes, else `lui` and `addi`
unfoldable pub constant : ℕ → ℤ → ℕ → List CodePart
constant rd n word =
    if is_ok (within (negsuc 2047) (pos 2047) n)
    then code.Fixed (insn.OpImmediate Addi rd 0 n) ∷ []
    else code.Fixed (insn.Lui rd (high_part word)) ∷ code.Fixed (insn.OpImmediate Addi rd rd (low_part word)) ∷ []

-- `li rd, n`: the number, or the word that it is modulo 2^32
unfoldable pub load_immediate : List Operand → Result (List CodePart) FaultKind
load_immediate operands =
    given (register_number operands)
    (λ r. map_ok (constant r.0 r.1) (bits_within w32 (negsuc 0x7FFF_FFFF) 0xFFFF_FFFF r.1))
