-- No instruction changes a page that may not be written.
use Rattle.std.proofs.Common.{◌≡◌, ℕ, Bool, true, false, Option, Some, None, Result, Ok, Err, refl, subst}
use Rattle.page_memory.specs.declared.fault.MemoryFault.{MemoryFault}
use Rattle.page_memory.specs.Memory.{Memory, fetched, loaded, stored, replaced, loaded_reserved, stored_conditionally}
use Rattle.page_memory.specs.ReadOnly.{KeepsReadOnly}
use Rattle.page_memory.proofs.KeptPages.{kept_itself, stored_keeps, replaced_keeps, reserved_keeps, conditional_keeps}
use Rattle.rv_isa.specs.declared.instruction.Insn.{Insn}
use Rattle.rv_isa.specs.declared.instruction.Insn.TheVariants.{Lui, Auipc, Jal, Jalr, Branch, Load, Store, OpImmediate, Shift, Op, Fence, Amo, LoadReserved, StoreConditional, Ecall, Ebreak}
use Rattle.rv_isa.specs.declared.kinds.LoadKind.{LoadKind}
use Rattle.rv_isa.specs.Table.{insn_of}
use Rattle.rv_exec.specs.Access.{load_width, store_width}
use Rattle.rv_exec.specs.Amo.{amo_result}
use Rattle.rv_exec.specs.Registers.{Registers, register}
use Rattle.rv_exec.specs.Arithmetic.{word_sum, word_of_signed, even, is_taken}
use Rattle.rv_exec.specs.Line.{Line, Next, Call, Traps, landed, jumped, branched, address_at, after_load, load_line, after_store, store_line, after_amo, amo_line, after_reserving, reserving_line, after_conditional, conditional_line, insn_line, decoded_line, fetched_line, line}

-- a line keeps such pages
abbrev pub LineKeeps : Memory → Line → Type 0
LineKeeps memory (Next regs left) = KeepsReadOnly memory left
LineKeeps memory Call = Unit {0}
LineKeeps memory (Traps cause value) = Unit {0}

landed_keeps : (regs : Registers) (memory : Memory) (rd target : ℕ) (aligned : Bool) → LineKeeps memory (landed regs memory rd target aligned)
landed_keeps regs memory rd target true = kept_itself memory
landed_keeps regs memory rd target false = tt

jumped_keeps : (regs : Registers) (memory : Memory) (rd target : ℕ) → LineKeeps memory (jumped regs memory rd target)
unfolding jumped
jumped_keeps regs memory rd target = landed_keeps regs memory rd target _

branched_keeps : (regs : Registers) (memory : Memory) (target : ℕ) (taken : Bool) → LineKeeps memory (branched regs memory target taken)
branched_keeps regs memory target true = jumped_keeps regs memory 0 target
branched_keeps regs memory target false = kept_itself memory

loaded_keeps : (regs : Registers) (memory : Memory) (kind : LoadKind) (rd address : ℕ) (answer : Result ℕ MemoryFault) → LineKeeps memory (after_load regs memory kind rd address answer)
loaded_keeps regs memory kind rd address (Ok number) = kept_itself memory
loaded_keeps regs memory kind rd address (Err fault) = tt

store_keeps : (regs : Registers) (memory : Memory) (address : ℕ) (answer : Result Memory MemoryFault) → ((left : Memory) → answer ≡ Ok left → KeepsReadOnly memory left) → LineKeeps memory (after_store regs address answer)
store_keeps regs memory address (Ok left) keeps = keeps left refl
store_keeps regs memory address (Err fault) keeps = tt

amo_keeps : (regs : Registers) (memory : Memory) (rd address : ℕ) (answer : Result (ℕ × Memory) MemoryFault) → ((left : ℕ × Memory) → answer ≡ Ok left → KeepsReadOnly memory left.1) → LineKeeps memory (after_amo regs rd address answer)
amo_keeps regs memory rd address (Ok left) keeps = keeps left refl
amo_keeps regs memory rd address (Err fault) keeps = tt

reserving_keeps : (regs : Registers) (memory : Memory) (rd address : ℕ) (answer : Result (ℕ × Memory) MemoryFault) → ((left : ℕ × Memory) → answer ≡ Ok left → KeepsReadOnly memory left.1) → LineKeeps memory (after_reserving regs rd address answer)
reserving_keeps regs memory rd address (Ok left) keeps = keeps left refl
reserving_keeps regs memory rd address (Err fault) keeps = tt

store_if_keeps : (regs : Registers) (memory : Memory) (rd address : ℕ) (answer : Result (Bool × Memory) MemoryFault) → ((left : Bool × Memory) → answer ≡ Ok left → KeepsReadOnly memory left.1) → LineKeeps memory (after_conditional regs rd address answer)
store_if_keeps regs memory rd address (Ok left) keeps = keeps left refl
store_if_keeps regs memory rd address (Err fault) keeps = tt

insn_keeps : (hart : ℕ) (regs : Registers) (memory : Memory) (insn : Insn) → LineKeeps memory (insn_line hart regs memory insn)
unfolding insn_line load_line store_line amo_line reserving_line conditional_line
insn_keeps hart regs memory (Lui rd immediate) = kept_itself memory
insn_keeps hart regs memory (Auipc rd immediate) = kept_itself memory
insn_keeps hart regs memory (Jal rd offset) = jumped_keeps regs memory rd (word_sum regs.pc (word_of_signed offset))
insn_keeps hart regs memory (Jalr rd rs1 offset) = jumped_keeps regs memory rd (even (word_sum (register regs rs1) (word_of_signed offset)))
insn_keeps hart regs memory (Branch kind rs1 rs2 offset) =
    branched_keeps regs memory (word_sum regs.pc (word_of_signed offset)) (is_taken kind (register regs rs1) (register regs rs2))
insn_keeps hart regs memory (Load kind rd rs1 offset) =
    loaded_keeps regs memory kind rd (address_at regs rs1 offset) (loaded memory (load_width kind) (address_at regs rs1 offset))
insn_keeps hart regs memory (Store kind rs1 rs2 offset) =
    store_keeps regs memory (address_at regs rs1 offset) (stored memory (store_width kind) (address_at regs rs1 offset) (register regs rs2))
    (λ left is. stored_keeps memory (store_width kind) (address_at regs rs1 offset) (register regs rs2) left is)
insn_keeps hart regs memory (OpImmediate kind rd rs1 immediate) = kept_itself memory
insn_keeps hart regs memory (Shift kind rd rs1 amount) = kept_itself memory
insn_keeps hart regs memory (Op kind rd rs1 rs2) = kept_itself memory
insn_keeps hart regs memory (Fence kept rd rs1) = kept_itself memory
insn_keeps hart regs memory (Amo kind acquire release rd rs1 rs2) =
    amo_keeps regs memory rd (register regs rs1) (replaced memory (λ old. amo_result kind old (register regs rs2)) (register regs rs1))
    (λ left is. replaced_keeps memory (λ old. amo_result kind old (register regs rs2)) (register regs rs1) left is)
insn_keeps hart regs memory (LoadReserved acquire release rd rs1) =
    reserving_keeps regs memory rd (register regs rs1) (loaded_reserved memory hart (register regs rs1)) (λ left is. reserved_keeps memory hart (register regs rs1) left is)
insn_keeps hart regs memory (StoreConditional acquire release rd rs1 rs2) =
    store_if_keeps regs memory rd (register regs rs1) (stored_conditionally memory hart (register regs rs1) (register regs rs2))
    (λ left is. conditional_keeps memory hart (register regs rs1) (register regs rs2) left is)
insn_keeps hart regs memory Ecall = tt
insn_keeps hart regs memory Ebreak = tt

word_keeps : (hart : ℕ) (regs : Registers) (memory : Memory) (word : ℕ) (insn : Option Insn) → LineKeeps memory (decoded_line hart regs memory word insn)
word_keeps hart regs memory word None = tt
word_keeps hart regs memory word (Some insn) = insn_keeps hart regs memory insn

fetched_keeps : (hart : ℕ) (regs : Registers) (memory : Memory) (answer : Result ℕ MemoryFault) → LineKeeps memory (fetched_line hart regs memory answer)
fetched_keeps hart regs memory (Ok word) = word_keeps hart regs memory word (insn_of word)
fetched_keeps hart regs memory (Err fault) = tt

pub line_keeps : (hart : ℕ) (regs : Registers) (memory : Memory) → LineKeeps memory (line hart regs memory)
unfolding line
line_keeps hart regs memory = fetched_keeps hart regs memory (fetched memory regs.pc)

pub next_keeps : (hart : ℕ) (regs regs' : Registers) (memory memory' : Memory) → line hart regs memory ≡ Next regs' memory' → KeepsReadOnly memory memory'
next_keeps hart regs regs' memory memory' is = subst (LineKeeps memory) is (line_keeps hart regs memory)
