-- What a decoded instruction does, by classes, and the line of the instruction table that it is.
use Rattle.std.specs.Prelude.{◌≡◌, ◌<◌, ◌≤◌, ℕ, ◌%◌, Bool, true, false, List, []}
use Rattle.page_memory.specs.Memory.{Memory}
use Rattle.rv_isa.specs.declared.kinds.BranchKind.{BranchKind}
use Rattle.rv_isa.specs.declared.kinds.LoadKind.{LoadKind}
use Rattle.rv_isa.specs.declared.kinds.StoreKind.{StoreKind}
use Rattle.rv_isa.specs.declared.kinds.ImmediateKind.{ImmediateKind}
use Rattle.rv_isa.specs.declared.kinds.ShiftKind.{ShiftKind}
use Rattle.rv_isa.specs.declared.kinds.OpKind.{OpKind}
use Rattle.rv_isa.specs.declared.kinds.BranchKind.TheVariants as branch
use Rattle.rv_isa.specs.declared.kinds.LoadKind.TheVariants as load
use Rattle.rv_isa.specs.declared.kinds.StoreKind.TheVariants as store
use Rattle.rv_isa.specs.declared.kinds.ImmediateKind.TheVariants as immediate
use Rattle.rv_isa.specs.declared.kinds.ShiftKind.TheVariants as shift
use Rattle.rv_isa.specs.declared.kinds.OpKind.TheVariants as op
use Rattle.rv_exec.specs.Arithmetic.{word_sum, even, result_of, immediate_operation, shift_operation, is_taken}
use Rattle.rv_exec.specs.Registers.{Registers, register, with_register, with_pc, next_pc}
use Rattle.rv_exec.specs.Line.{Line, Next, Call, computed, jumped, load_line, store_line}
use Rattle.rv_exec.specs.Uses.{load_pages, store_pages}
use Rattle.decoded_pages.specs.declared.operation.Operation.{Operation}
use Rattle.decoded_pages.specs.declared.operation.Operation.TheVariants as operation
use Rattle.decoded_pages.specs.declared.instruction.DecodedInstruction.{DecodedInstruction}

pub data Class : Type 0 where
  Undecoded : Class
  Continues : Class
  Constant : Class
  Links : Class
  Jumps : Class
  LinksRegister : Class
  JumpsRegister : Class
  Branches : BranchKind → Class
  Loads : LoadKind → Class
  Stores : StoreKind → Class
  WithImmediate : ImmediateKind → Class
  Shifts : ShiftKind → Class
  Operates : OpKind → Class

abbrev pub class_of : Operation → Class
class_of operation.ByWord = Undecoded
class_of operation.PageEnd = Undecoded
class_of operation.Nothing = Continues
class_of operation.Constant = Constant
class_of operation.JumpAndLink = Links
class_of operation.Jump = Jumps
class_of operation.JumpAndLinkRegister = LinksRegister
class_of operation.JumpRegister = JumpsRegister
class_of operation.Beq = Branches branch.Beq
class_of operation.Bne = Branches branch.Bne
class_of operation.Blt = Branches branch.Blt
class_of operation.Bge = Branches branch.Bge
class_of operation.Bltu = Branches branch.Bltu
class_of operation.Bgeu = Branches branch.Bgeu
class_of operation.Lb = Loads load.Lb
class_of operation.Lh = Loads load.Lh
class_of operation.Lw = Loads load.Lw
class_of operation.Lbu = Loads load.Lbu
class_of operation.Lhu = Loads load.Lhu
class_of operation.Sb = Stores store.Sb
class_of operation.Sh = Stores store.Sh
class_of operation.Sw = Stores store.Sw
class_of operation.Addi = WithImmediate immediate.Addi
class_of operation.Slti = WithImmediate immediate.Slti
class_of operation.Sltiu = WithImmediate immediate.Sltiu
class_of operation.Xori = WithImmediate immediate.Xori
class_of operation.Ori = WithImmediate immediate.Ori
class_of operation.Andi = WithImmediate immediate.Andi
class_of operation.Slli = Shifts shift.Slli
class_of operation.Srli = Shifts shift.Srli
class_of operation.Srai = Shifts shift.Srai
class_of operation.Add = Operates op.Add
class_of operation.Sub = Operates op.Sub
class_of operation.Sll = Operates op.Sll
class_of operation.Slt = Operates op.Slt
class_of operation.Sltu = Operates op.Sltu
class_of operation.Xor = Operates op.Xor
class_of operation.Srl = Operates op.Srl
class_of operation.Sra = Operates op.Sra
class_of operation.Or = Operates op.Or
class_of operation.And = Operates op.And
class_of operation.Mul = Operates op.Mul
class_of operation.Mulh = Operates op.Mulh
class_of operation.Mulhsu = Operates op.Mulhsu
class_of operation.Mulhu = Operates op.Mulhu
class_of operation.Div = Operates op.Div
class_of operation.Divu = Operates op.Divu
class_of operation.Rem = Operates op.Rem
class_of operation.Remu = Operates op.Remu

-- where a branch of the page that starts there goes
abbrev pub branch_target : Bool → ℕ → ℕ → Registers → ℕ
branch_target true start relative regs = word_sum start relative
branch_target false start relative regs = next_pc regs

-- the line of a class, of an instruction of the page that starts there. The immediate of a jump or of a branch is how far its target
-- is past the page's first address
abbrev pub class_line : Class → (rd rs1 rs2 immediate start : ℕ) → Registers → Memory → Line
class_line Undecoded rd rs1 rs2 immediate start regs memory = Call
class_line Continues rd rs1 rs2 immediate start regs memory = Next (with_pc regs (next_pc regs)) memory
class_line Constant rd rs1 rs2 immediate start regs memory = Next (computed regs rd immediate) memory
class_line Links rd rs1 rs2 immediate start regs memory =
    Next (with_register (with_pc regs (word_sum start immediate)) rd (next_pc regs)) memory
class_line Jumps rd rs1 rs2 immediate start regs memory = Next (with_pc regs (word_sum start immediate)) memory
class_line LinksRegister rd rs1 rs2 immediate start regs memory =
    jumped regs memory rd (even (word_sum (register regs rs1) immediate))
class_line JumpsRegister rd rs1 rs2 immediate start regs memory =
    jumped regs memory 0 (even (word_sum (register regs rs1) immediate))
class_line (Branches kind) rd rs1 rs2 immediate start regs memory =
    Next (with_pc regs (branch_target (is_taken kind (register regs rs1) (register regs rs2)) start immediate regs)) memory
class_line (Loads kind) rd rs1 rs2 immediate start regs memory =
    load_line regs memory kind rd (word_sum (register regs rs1) immediate)
class_line (Stores kind) rd rs1 rs2 immediate start regs memory =
    store_line regs memory kind (word_sum (register regs rs1) immediate) (register regs rs2)
class_line (WithImmediate kind) rd rs1 rs2 immediate start regs memory =
    Next (computed regs rd (result_of (immediate_operation kind) (register regs rs1) immediate)) memory
class_line (Shifts kind) rd rs1 rs2 immediate start regs memory =
    Next (computed regs rd (result_of (shift_operation kind) (register regs rs1) immediate)) memory
class_line (Operates kind) rd rs1 rs2 immediate start regs memory =
    Next (computed regs rd (result_of kind (register regs rs1) (register regs rs2))) memory

-- the line of a decoded instruction
unfoldable pub decoded_as : DecodedInstruction → ℕ → Registers → Memory → Line
decoded_as instruction start regs memory =
    class_line (class_of instruction.operation) instruction.rd instruction.rs1 instruction.rs2 instruction.immediate start regs memory

-- the pages that an instruction of a class loads from or stores to
abbrev pub class_data : Class → (rs1 rs2 immediate : ℕ) → Registers → Memory → List ℕ
class_data (Loads kind) rs1 rs2 immediate regs memory = load_pages memory kind (word_sum (register regs rs1) immediate)
class_data (Stores kind) rs1 rs2 immediate regs memory =
    store_pages memory kind (word_sum (register regs rs1) immediate) (register regs rs2)
class_data _ rs1 rs2 immediate regs memory = []

-- those among them that it stores to
abbrev pub class_stores : Class → (rs1 rs2 immediate : ℕ) → Registers → Memory → List ℕ
class_stores (Stores kind) rs1 rs2 immediate regs memory =
    store_pages memory kind (word_sum (register regs rs1) immediate) (register regs rs2)
class_stores _ rs1 rs2 immediate regs memory = []

-- the same of a decoded instruction
unfoldable pub data_of : DecodedInstruction → Registers → Memory → List ℕ
data_of instruction regs memory =
    class_data (class_of instruction.operation) instruction.rs1 instruction.rs2 instruction.immediate regs memory

unfoldable pub stores_of : DecodedInstruction → Registers → Memory → List ℕ
stores_of instruction regs memory =
    class_stores (class_of instruction.operation) instruction.rs1 instruction.rs2 instruction.immediate regs memory

-- a fact of what is run without its word
abbrev pub OfClass : Class → Type 0 → Type 0
OfClass Undecoded fact = Unit {0}
OfClass Continues fact = fact
OfClass Constant fact = fact
OfClass Links fact = fact
OfClass Jumps fact = fact
OfClass LinksRegister fact = fact
OfClass JumpsRegister fact = fact
OfClass (Branches kind) fact = fact
OfClass (Loads kind) fact = fact
OfClass (Stores kind) fact = fact
OfClass (WithImmediate kind) fact = fact
OfClass (Shifts kind) fact = fact
OfClass (Operates kind) fact = fact

-- how far a target is past the page's first address is a multiple of 4
abbrev pub HasAligned : Class → ℕ → Type 0
HasAligned Links immediate = immediate % 4 ≡ 0
HasAligned Jumps immediate = immediate % 4 ≡ 0
HasAligned (Branches kind) immediate = immediate % 4 ≡ 0
HasAligned Undecoded immediate = Unit {0}
HasAligned Continues immediate = Unit {0}
HasAligned Constant immediate = Unit {0}
HasAligned LinksRegister immediate = Unit {0}
HasAligned JumpsRegister immediate = Unit {0}
HasAligned (Loads kind) immediate = Unit {0}
HasAligned (Stores kind) immediate = Unit {0}
HasAligned (WithImmediate kind) immediate = Unit {0}
HasAligned (Shifts kind) immediate = Unit {0}
HasAligned (Operates kind) immediate = Unit {0}

-- whether the next instruction of the page may follow one of a class
abbrev pub Falls : Class → Type 0
Falls Links = ⊥
Falls Jumps = ⊥
Falls LinksRegister = ⊥
Falls JumpsRegister = ⊥
Falls Undecoded = Unit {0}
Falls Continues = Unit {0}
Falls Constant = Unit {0}
Falls (Branches kind) = Unit {0}
Falls (Loads kind) = Unit {0}
Falls (Stores kind) = Unit {0}
Falls (WithImmediate kind) = Unit {0}
Falls (Shifts kind) = Unit {0}
Falls (Operates kind) = Unit {0}

-- how far a straight line goes at most from an instruction of that number, where one from the next goes that far: the number of the first
-- instruction that is not done in it
abbrev pub EndsLine : Class → (place end next : ℕ) → Type 0
EndsLine Undecoded place end next = Unit {0}
EndsLine Links place end next = place < end
EndsLine Jumps place end next = place < end
EndsLine LinksRegister place end next = place < end
EndsLine JumpsRegister place end next = place < end
EndsLine Continues place end next = (place < end) × (next ≤ end)
EndsLine Constant place end next = (place < end) × (next ≤ end)
EndsLine (Branches kind) place end next = (place < end) × (next ≤ end)
EndsLine (Loads kind) place end next = (place < end) × (next ≤ end)
EndsLine (Stores kind) place end next = (place < end) × (next ≤ end)
EndsLine (WithImmediate kind) place end next = (place < end) × (next ≤ end)
EndsLine (Shifts kind) place end next = (place < end) × (next ≤ end)
EndsLine (Operates kind) place end next = (place < end) × (next ≤ end)
