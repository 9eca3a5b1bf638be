-- The instruction table by forms: what opcode and funct3 tell of a word, and what is left to tell.
use Rattle.std.specs.Prelude.{ℕ, ◌==◌, Option, Some, None, if◌then◌else◌}
use Rattle.rv_isa.specs.Bits.{bits}
use Rattle.rv_isa.specs.declared.kinds.BranchKind.{BranchKind}
use Rattle.rv_isa.specs.declared.kinds.BranchKind.TheVariants.{Beq, Bne, Blt, Bge, Bltu, Bgeu}
use Rattle.rv_isa.specs.declared.kinds.ImmediateKind.{ImmediateKind}
use Rattle.rv_isa.specs.declared.kinds.ImmediateKind.TheVariants.{Addi, Slti, Sltiu, Xori, Ori, Andi}
use Rattle.rv_isa.specs.declared.kinds.ShiftKind.{ShiftKind}
use Rattle.rv_isa.specs.declared.kinds.ShiftKind.TheVariants.{Slli, Srli, Srai}
use Rattle.rv_isa.specs.declared.kinds.OpKind.{OpKind}
use Rattle.rv_isa.specs.declared.kinds.OpKind.TheVariants.{Add, Sub, Sll, Slt, Sltu, Xor, Srl, Sra, Or, And, Mul, Mulh, Mulhsu, Mulhu, Div, Divu, Rem, Remu}
use Rattle.rv_isa.specs.declared.kinds.LoadKind.{LoadKind}
use Rattle.rv_isa.specs.declared.kinds.LoadKind.TheVariants.{Lb, Lh, Lw, Lbu, Lhu}
use Rattle.rv_isa.specs.declared.kinds.StoreKind.{StoreKind}
use Rattle.rv_isa.specs.declared.kinds.StoreKind.TheVariants.{Sb, Sh, Sw}
use Rattle.rv_isa.specs.declared.instruction.Insn.{Insn}
use Rattle.rv_isa.specs.declared.instruction.Insn.TheVariants.{Lui, Auipc, Jal, Jalr, Branch, Load, Store, OpImmediate, Shift, Op, Fence}
use Rattle.rv_isa.specs.declared.forms.Form.{Form}
use Rattle.rv_isa.specs.declared.forms.Form.TheVariants.{Illegal, Lui as LuiForm, Auipc as AuipcForm, Jal as JalForm, Jalr as JalrForm, Beq as BeqForm, Bne as BneForm, Blt as BltForm, Bge as BgeForm, Bltu as BltuForm, Bgeu as BgeuForm, Lb as LbForm, Lh as LhForm, Lw as LwForm, Lbu as LbuForm, Lhu as LhuForm, Sb as SbForm, Sh as ShForm, Sw as SwForm, Addi as AddiForm, Slti as SltiForm, Sltiu as SltiuForm, Xori as XoriForm, Ori as OriForm, Andi as AndiForm, ShiftLeft, ShiftRight, AddSubMul, SllMulh, SltMulhsu, SltuMulhu, XorDiv, SrlSraDivu, OrRem, AndRemu, Fence as FenceForm, Amo as AmoForm, System as SystemForm}
use Rattle.rv_isa.specs.Table.{i_immediate, s_immediate, b_immediate, u_immediate, j_immediate, branch_kind, load_kind, store_kind, immediate_kind, amo_of, system_of}

-- ---- the form of an opcode and a funct3

abbrev pub branch_form : Option BranchKind → Form
branch_form None = Illegal
branch_form (Some Beq) = BeqForm
branch_form (Some Bne) = BneForm
branch_form (Some Blt) = BltForm
branch_form (Some Bge) = BgeForm
branch_form (Some Bltu) = BltuForm
branch_form (Some Bgeu) = BgeuForm

abbrev pub load_form : Option LoadKind → Form
load_form None = Illegal
load_form (Some Lb) = LbForm
load_form (Some Lh) = LhForm
load_form (Some Lw) = LwForm
load_form (Some Lbu) = LbuForm
load_form (Some Lhu) = LhuForm

abbrev pub store_form : Option StoreKind → Form
store_form None = Illegal
store_form (Some Sb) = SbForm
store_form (Some Sh) = ShForm
store_form (Some Sw) = SwForm

-- an operation with an immediate that is no shift, else a shift
abbrev pub immediate_form : Option ImmediateKind → ℕ → Form
immediate_form (Some Addi) funct3 = AddiForm
immediate_form (Some Slti) funct3 = SltiForm
immediate_form (Some Sltiu) funct3 = SltiuForm
immediate_form (Some Xori) funct3 = XoriForm
immediate_form (Some Ori) funct3 = OriForm
immediate_form (Some Andi) funct3 = AndiForm
immediate_form None funct3 =
    if funct3 == 0b001 then ShiftLeft else if funct3 == 0b101 then ShiftRight else Illegal

abbrev pub op_form : ℕ → Form
op_form funct3 =
    if funct3 == 0b000 then AddSubMul
    else if funct3 == 0b001 then SllMulh
    else if funct3 == 0b010 then SltMulhsu
    else if funct3 == 0b011 then SltuMulhu
    else if funct3 == 0b100 then XorDiv
    else if funct3 == 0b101 then SrlSraDivu
    else if funct3 == 0b110 then OrRem
    else if funct3 == 0b111 then AndRemu
    else Illegal

-- of the opcodes of memory, arithmetic and the system
unfoldable pub operation_form : ℕ → ℕ → Form
operation_form opcode funct3 =
    if opcode == 0b0000011 then load_form (load_kind funct3)
    else if opcode == 0b0100011 then store_form (store_kind funct3)
    else if opcode == 0b0010011 then immediate_form (immediate_kind funct3) funct3
    else if opcode == 0b0110011 then op_form funct3
    else if opcode == 0b0001111 then (if funct3 == 0b000 then FenceForm else Illegal)
    else if opcode == 0b0101111 then AmoForm
    else if opcode == 0b1110011 then SystemForm
    else Illegal

unfoldable pub form_of : ℕ → ℕ → Form
form_of opcode funct3 =
    if opcode == 0b0110111 then LuiForm
    else if opcode == 0b0010111 then AuipcForm
    else if opcode == 0b1101111 then JalForm
    else if opcode == 0b1100111 then (if funct3 == 0b000 then JalrForm else Illegal)
    else if opcode == 0b1100011 then branch_form (branch_kind funct3)
    else operation_form opcode funct3

-- ---- the instruction of a word of a form

-- its operands are where the word's format has them
abbrev pub branch_insn : BranchKind → ℕ → Insn
branch_insn kind word = Branch kind (bits word 19 15) (bits word 24 20) (b_immediate word)

abbrev pub load_insn : LoadKind → ℕ → Insn
load_insn kind word = Load kind (bits word 11 7) (bits word 19 15) (i_immediate word)

abbrev pub store_insn : StoreKind → ℕ → Insn
store_insn kind word = Store kind (bits word 19 15) (bits word 24 20) (s_immediate word)

abbrev pub immediate_insn : ImmediateKind → ℕ → Insn
immediate_insn kind word = OpImmediate kind (bits word 11 7) (bits word 19 15) (i_immediate word)

abbrev pub shift_insn : ShiftKind → ℕ → Insn
shift_insn kind word = Shift kind (bits word 11 7) (bits word 19 15) (bits word 24 20)

abbrev pub op_insn : OpKind → ℕ → Insn
op_insn kind word = Op kind (bits word 11 7) (bits word 19 15) (bits word 24 20)

-- by funct7: one shift, or one of two
unfoldable pub shift_left_of : ℕ → Option Insn
shift_left_of word = if bits word 31 25 == 0b0000000 then Some (shift_insn Slli word) else None

unfoldable pub shift_right_of : ℕ → Option Insn
shift_right_of word =
    if bits word 31 25 == 0b0000000 then Some (shift_insn Srli word)
    else if bits word 31 25 == 0b0100000 then Some (shift_insn Srai word)
    else None

-- by funct7: an operation of RV32I or one of M
unfoldable pub op_of_two : OpKind → OpKind → ℕ → Option Insn
op_of_two base m word =
    if bits word 31 25 == 0b0000000 then Some (op_insn base word)
    else if bits word 31 25 == 0b0000001 then Some (op_insn m word)
    else None

-- by funct7: an operation of RV32I, one of M, or another one of RV32I
unfoldable pub op_of_three : OpKind → OpKind → OpKind → ℕ → Option Insn
op_of_three base m other word =
    if bits word 31 25 == 0b0000000 then Some (op_insn base word)
    else if bits word 31 25 == 0b0000001 then Some (op_insn m word)
    else if bits word 31 25 == 0b0100000 then Some (op_insn other word)
    else None

abbrev pub insn_of_form : Form → ℕ → Option Insn
insn_of_form Illegal word = None
insn_of_form LuiForm word = Some (Lui (bits word 11 7) (u_immediate word))
insn_of_form AuipcForm word = Some (Auipc (bits word 11 7) (u_immediate word))
insn_of_form JalForm word = Some (Jal (bits word 11 7) (j_immediate word))
insn_of_form JalrForm word = Some (Jalr (bits word 11 7) (bits word 19 15) (i_immediate word))
insn_of_form BeqForm word = Some (branch_insn Beq word)
insn_of_form BneForm word = Some (branch_insn Bne word)
insn_of_form BltForm word = Some (branch_insn Blt word)
insn_of_form BgeForm word = Some (branch_insn Bge word)
insn_of_form BltuForm word = Some (branch_insn Bltu word)
insn_of_form BgeuForm word = Some (branch_insn Bgeu word)
insn_of_form LbForm word = Some (load_insn Lb word)
insn_of_form LhForm word = Some (load_insn Lh word)
insn_of_form LwForm word = Some (load_insn Lw word)
insn_of_form LbuForm word = Some (load_insn Lbu word)
insn_of_form LhuForm word = Some (load_insn Lhu word)
insn_of_form SbForm word = Some (store_insn Sb word)
insn_of_form ShForm word = Some (store_insn Sh word)
insn_of_form SwForm word = Some (store_insn Sw word)
insn_of_form AddiForm word = Some (immediate_insn Addi word)
insn_of_form SltiForm word = Some (immediate_insn Slti word)
insn_of_form SltiuForm word = Some (immediate_insn Sltiu word)
insn_of_form XoriForm word = Some (immediate_insn Xori word)
insn_of_form OriForm word = Some (immediate_insn Ori word)
insn_of_form AndiForm word = Some (immediate_insn Andi word)
insn_of_form ShiftLeft word = shift_left_of word
insn_of_form ShiftRight word = shift_right_of word
insn_of_form AddSubMul word = op_of_three Add Mul Sub word
insn_of_form SllMulh word = op_of_two Sll Mulh word
insn_of_form SltMulhsu word = op_of_two Slt Mulhsu word
insn_of_form SltuMulhu word = op_of_two Sltu Mulhu word
insn_of_form XorDiv word = op_of_two Xor Div word
insn_of_form SrlSraDivu word = op_of_three Srl Divu Sra word
insn_of_form OrRem word = op_of_two Or Rem word
insn_of_form AndRemu word = op_of_two And Remu word
insn_of_form FenceForm word = Some (Fence (bits word 31 20) (bits word 11 7) (bits word 19 15))
insn_of_form AmoForm word = amo_of word
insn_of_form SystemForm word = system_of word
