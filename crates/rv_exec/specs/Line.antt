-- The line of the instruction table that a hart's next step is: what it does to registers and memory
-- (unprivileged manual, "RV32I Base Integer Instruction Set"; the traps' causes and values are this project's profile).
use Rattle.std.specs.Prelude.{ℕ, ◌*◌, ◌%◌, ◌^◌, ◌==◌, ℤ, Bool, true, false, Option, Some, None, Result, Ok, Err}
use Rattle.page_memory.specs.declared.fault.MemoryFault.{MemoryFault}
use Rattle.page_memory.specs.Memory.{Memory, fetched, loaded, stored, replaced, loaded_reserved, stored_conditionally}
use Rattle.rv_isa.specs.declared.instruction.Insn.{Insn}
use Rattle.rv_isa.specs.declared.instruction.Insn.TheVariants.{Lui, Auipc, Jal, Jalr, Branch, Load, Store, OpImmediate, Shift, Op, Fence, Amo, LoadReserved, StoreConditional, Ecall, Ebreak}
use Rattle.rv_isa.specs.declared.kinds.LoadKind.{LoadKind}
use Rattle.rv_isa.specs.declared.kinds.StoreKind.{StoreKind}
use Rattle.rv_isa.specs.declared.kinds.AmoKind.{AmoKind}
use Rattle.rv_isa.specs.Table.{insn_of}
use Rattle.rv_exec.specs.declared.cause.Cause.{Cause}
use Rattle.rv_exec.specs.declared.cause.Cause.TheVariants.{InstructionMisaligned, IllegalInstruction, Breakpoint}
use Rattle.rv_exec.specs.Causes.{fetch_cause, load_cause, store_cause}
use Rattle.rv_exec.specs.Registers.{Registers, register, with_register, with_pc, next_pc}
use Rattle.rv_exec.specs.Arithmetic.{word_sum, word_of_signed, even, result_of, immediate_operation, shift_operation, is_taken}
use Rattle.rv_exec.specs.Access.{load_width, store_width, extended}
use Rattle.rv_exec.specs.Amo.{amo_result}

-- what a step does: new registers and memory, an environment call, or a trap with its value
pub data Line : Type 0 where
  Next : Registers → Memory → Line
  Call : Line
  Traps : Cause → ℕ → Line

-- ---- computing

-- a value goes to rd, and pc to the next instruction
unfoldable pub computed : Registers → ℕ → ℕ → Registers
computed regs rd value = with_register (with_pc regs (next_pc regs)) rd value

-- ---- jumps and branches

-- the jump lands where its target is a multiple of 4, and rd gets the address of the next instruction;
-- else the trap is the jump's: rd and pc keep their values
abbrev pub landed : Registers → Memory → ℕ → ℕ → Bool → Line
landed regs memory rd target true = Next (with_register (with_pc regs target) rd (next_pc regs)) memory
landed regs memory rd target false = Traps InstructionMisaligned target

unfoldable pub jumped : Registers → Memory → ℕ → ℕ → Line
jumped regs memory rd target = landed regs memory rd target (target % 4 == 0)

-- a branch that is taken is a jump that keeps no address
abbrev pub branched : Registers → Memory → ℕ → Bool → Line
branched regs memory target true = jumped regs memory 0 target
branched regs memory target false = Next (with_pc regs (next_pc regs)) memory

-- ---- loads, stores and atomic operations: what memory's answer does. A load traps where memory refuses it, also one
-- whose value is lost in x0

-- the address of a load or a store
abbrev pub address_at : Registers → ℕ → ℤ → ℕ
address_at regs rs1 offset = word_sum (register regs rs1) (word_of_signed offset)

abbrev pub after_load : Registers → Memory → LoadKind → ℕ → ℕ → Result ℕ MemoryFault → Line
after_load regs memory kind rd address (Ok number) = Next (computed regs rd (extended kind number)) memory
after_load regs memory kind rd address (Err fault) = Traps (load_cause fault) address

unfoldable pub load_line : Registers → Memory → LoadKind → ℕ → ℕ → Line
load_line regs memory kind rd address = after_load regs memory kind rd address (loaded memory (load_width kind) address)

abbrev pub after_store : Registers → ℕ → Result Memory MemoryFault → Line
after_store regs address (Ok changed) = Next (with_pc regs (next_pc regs)) changed
after_store regs address (Err fault) = Traps (store_cause fault) address

unfoldable pub store_line : Registers → Memory → StoreKind → ℕ → ℕ → Line
store_line regs memory kind address word = after_store regs address (stored memory (store_width kind) address word)

abbrev pub after_amo : Registers → ℕ → ℕ → Result (ℕ × Memory) MemoryFault → Line
after_amo regs rd address (Ok answer) = Next (computed regs rd answer.0) answer.1
after_amo regs rd address (Err fault) = Traps (store_cause fault) address

-- rd gets the old word, and the operation's result is stored in its place, in one step
unfoldable pub amo_line : Registers → Memory → AmoKind → ℕ → ℕ → ℕ → Line
amo_line regs memory kind rd address operand =
    after_amo regs rd address (replaced memory (λ old. amo_result kind old operand) address)

-- ---- load-reserved and store-conditional, of the hart of a number

abbrev pub after_reserving : Registers → ℕ → ℕ → Result (ℕ × Memory) MemoryFault → Line
after_reserving regs rd address (Ok answer) = Next (computed regs rd answer.0) answer.1
after_reserving regs rd address (Err fault) = Traps (load_cause fault) address

-- rd gets the word, and the hart reserves it
unfoldable pub reserving_line : ℕ → Registers → Memory → ℕ → ℕ → Line
reserving_line hart regs memory rd address = after_reserving regs rd address (loaded_reserved memory hart address)

-- what rd gets: 0 where the word was stored
abbrev pub conditional_code : Bool → ℕ
conditional_code true = 0
conditional_code false = 1

abbrev pub after_conditional : Registers → ℕ → ℕ → Result (Bool × Memory) MemoryFault → Line
after_conditional regs rd address (Ok answer) = Next (computed regs rd (conditional_code answer.0)) answer.1
after_conditional regs rd address (Err fault) = Traps (store_cause fault) address

-- a word is stored where the hart has reserved it; whether it may be stored is tested first
unfoldable pub conditional_line : ℕ → Registers → Memory → ℕ → ℕ → ℕ → Line
conditional_line hart regs memory rd address word = after_conditional regs rd address (stored_conditionally memory hart address word)

-- ---- the lines

-- what an instruction of the hart of a number does. Execution is sequentially consistent: FENCE and the flags of an atomic operation order nothing more
unfoldable pub insn_line : ℕ → Registers → Memory → Insn → Line
insn_line hart regs memory (Lui rd immediate) = Next (computed regs rd (immediate * 2 ^ 12)) memory
insn_line hart regs memory (Auipc rd immediate) = Next (computed regs rd (word_sum regs.pc (immediate * 2 ^ 12))) memory
insn_line hart regs memory (Jal rd offset) = jumped regs memory rd (word_sum regs.pc (word_of_signed offset))
insn_line hart regs memory (Jalr rd rs1 offset) = jumped regs memory rd (even (word_sum (register regs rs1) (word_of_signed offset)))
insn_line hart regs memory (Branch kind rs1 rs2 offset) =
    branched regs memory (word_sum regs.pc (word_of_signed offset)) (is_taken kind (register regs rs1) (register regs rs2))
insn_line hart regs memory (Load kind rd rs1 offset) = load_line regs memory kind rd (address_at regs rs1 offset)
insn_line hart regs memory (Store kind rs1 rs2 offset) =
    store_line regs memory kind (address_at regs rs1 offset) (register regs rs2)
insn_line hart regs memory (OpImmediate kind rd rs1 immediate) =
    Next (computed regs rd (result_of (immediate_operation kind) (register regs rs1) (word_of_signed immediate))) memory
insn_line hart regs memory (Shift kind rd rs1 amount) =
    Next (computed regs rd (result_of (shift_operation kind) (register regs rs1) amount)) memory
insn_line hart regs memory (Op kind rd rs1 rs2) =
    Next (computed regs rd (result_of kind (register regs rs1) (register regs rs2))) memory
insn_line hart regs memory (Fence kept rd rs1) = Next (with_pc regs (next_pc regs)) memory
insn_line hart regs memory (Amo kind acquire release rd rs1 rs2) =
    amo_line regs memory kind rd (register regs rs1) (register regs rs2)
insn_line hart regs memory (LoadReserved acquire release rd rs1) = reserving_line hart regs memory rd (register regs rs1)
insn_line hart regs memory (StoreConditional acquire release rd rs1 rs2) =
    conditional_line hart regs memory rd (register regs rs1) (register regs rs2)
insn_line hart regs memory Ecall = Call
insn_line hart regs memory Ebreak = Traps Breakpoint regs.pc

-- what a fetched word does: a word outside the table is an illegal instruction
abbrev pub decoded_line : ℕ → Registers → Memory → ℕ → Option Insn → Line
decoded_line hart regs memory word None = Traps IllegalInstruction word
decoded_line hart regs memory word (Some insn) = insn_line hart regs memory insn

-- what the answer to the fetch does
abbrev pub fetched_line : ℕ → Registers → Memory → Result ℕ MemoryFault → Line
fetched_line hart regs memory (Ok word) = decoded_line hart regs memory word (insn_of word)
fetched_line hart regs memory (Err fault) = Traps (fetch_cause fault) regs.pc

-- the line of the hart of a number, at its registers and this memory
unfoldable pub line : ℕ → Registers → Memory → Line
line hart regs memory = fetched_line hart regs memory (fetched memory regs.pc)
