-- What an instruction does to memory and to registers, by cases.
use Rattle.std.specs.Prelude.{ℕ, Bool, true, false, Option, Some, None}
use Rattle.page_memory.specs.Words.{bytes_in}
use Rattle.rv_isa.specs.declared.instruction.Insn.{Insn}
use Rattle.rv_isa.specs.declared.instruction.Insn.TheVariants.{Lui, Auipc, Jal, Jalr, Load, Store, OpImmediate, Shift, Op, Amo, LoadReserved, StoreConditional}
use Rattle.rv_isa.specs.declared.kinds.LoadKind.{LoadKind}
use Rattle.rv_isa.specs.declared.kinds.StoreKind.{StoreKind}
use Rattle.rv_exec.specs.Registers.{Registers, register}
use Rattle.rv_exec.specs.Access.{load_width, store_width}
use Rattle.rv_exec.specs.Line.{address_at}
use Rattle.guest_steps.specs.declared.access.DataAccess.{DataAccess}

abbrev pub bytes_loaded : LoadKind → ℕ
bytes_loaded kind = bytes_in (load_width kind)

abbrev pub bytes_stored : StoreKind → ℕ
bytes_stored kind = bytes_in (store_width kind)

-- the word to which a register leads
abbrev pub word_at : Registers → ℕ → Bool → DataAccess
word_at regs rs1 is_store = record { address = register regs rs1; bytes = 4; is_store = is_store }

-- the bytes that an instruction loads or stores
abbrev pub accessed : Registers → Insn → Option DataAccess
accessed regs (Load kind rd rs1 offset) = Some (record { address = address_at regs rs1 offset; bytes = bytes_loaded kind; is_store = false })
accessed regs (Store kind rs1 rs2 offset) = Some (record { address = address_at regs rs1 offset; bytes = bytes_stored kind; is_store = true })
accessed regs (Amo kind acquire release rd rs1 rs2) = Some (word_at regs rs1 true)
accessed regs (LoadReserved acquire release rd rs1) = Some (word_at regs rs1 false)
accessed regs (StoreConditional acquire release rd rs1 rs2) = Some (word_at regs rs1 true)
accessed regs _ = None

-- the register that an instruction writes
abbrev pub destination : Insn → Option ℕ
destination (Lui rd immediate) = Some rd
destination (Auipc rd immediate) = Some rd
destination (Jal rd offset) = Some rd
destination (Jalr rd rs1 offset) = Some rd
destination (Load kind rd rs1 offset) = Some rd
destination (OpImmediate kind rd rs1 immediate) = Some rd
destination (Shift kind rd rs1 amount) = Some rd
destination (Op kind rd rs1 rs2) = Some rd
destination (Amo kind acquire release rd rs1 rs2) = Some rd
destination (LoadReserved acquire release rd rs1) = Some rd
destination (StoreConditional acquire release rd rs1 rs2) = Some rd
destination _ = None
