-- The pages of an instruction with those of the call that it makes, in one definition by cases; and whether that call lets others
-- have their turn.
use Rattle.std.specs.Prelude.{ℕ, Bool, false, List, []}
use Rattle.page_memory.specs.Memory.{Memory}
use Rattle.rv_isa.specs.declared.instruction.Insn.{Insn}
use Rattle.rv_isa.specs.declared.instruction.Insn.TheVariants.{Load, Store, Amo, LoadReserved, StoreConditional, Ecall}
use Rattle.rv_isa.specs.declared.kinds.LoadKind.TheVariants.{Lw}
use Rattle.rv_isa.specs.declared.kinds.StoreKind.TheVariants.{Sw}
use Rattle.rv_exec.specs.Registers.{Registers, register}
use Rattle.rv_exec.specs.Line.{address_at}
use Rattle.rv_exec.specs.Uses.{load_pages, store_pages, amo_pages}
use Rattle.env_calls.specs.Calls.{a7, call_of, call_pages, call_stores}
use Rattle.guest_strings.specs.Yields.{is_yield}

abbrev pub insn_pages : Registers → Memory → Insn → List ℕ
insn_pages regs memory (Load kind rd rs1 offset) = load_pages memory kind (address_at regs rs1 offset)
insn_pages regs memory (Store kind rs1 rs2 offset) = store_pages memory kind (address_at regs rs1 offset) (register regs rs2)
insn_pages regs memory (Amo kind acquire release rd rs1 rs2) = amo_pages memory kind (register regs rs1) (register regs rs2)
insn_pages regs memory (LoadReserved acquire release rd rs1) = load_pages memory Lw (register regs rs1)
insn_pages regs memory (StoreConditional acquire release rd rs1 rs2) = store_pages memory Sw (register regs rs1) (register regs rs2)
insn_pages regs memory Ecall = call_pages regs memory
insn_pages regs memory _ = []

abbrev pub insn_stores : Registers → Memory → Insn → List ℕ
insn_stores regs memory (Store kind rs1 rs2 offset) = store_pages memory kind (address_at regs rs1 offset) (register regs rs2)
insn_stores regs memory (Amo kind acquire release rd rs1 rs2) = amo_pages memory kind (register regs rs1) (register regs rs2)
insn_stores regs memory (StoreConditional acquire release rd rs1 rs2) = store_pages memory Sw (register regs rs1) (register regs rs2)
insn_stores regs memory Ecall = call_stores regs memory
insn_stores regs memory _ = []

abbrev pub insn_yields : Registers → Insn → Bool
insn_yields regs Ecall = is_yield (call_of (register regs a7))
insn_yields regs _ = false
