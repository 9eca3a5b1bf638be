-- The pages of a step, by what its fetch gives.
use Rattle.std.specs.Prelude.{◌≡◌, ℕ, ◌%◌, ◌==◌, Bool, true, false, List, [], ◌∷◌, ◌++◌, Option, Some, None, Result, Ok, Err, refl}
use Rattle.std.proofs.Common.{ap, sym, ◌∙◌, append-nil}
use Rattle.page_memory.specs.declared.fault.MemoryFault.{MemoryFault}
use Rattle.page_memory.specs.Words.{page_number}
use Rattle.page_memory.specs.Memory.{Memory, fetched, loaded, stored, replaced, loaded_reserved, stored_conditionally}
use Rattle.rv_isa.specs.declared.instruction.Insn.{Insn}
use Rattle.rv_isa.specs.declared.instruction.Insn.TheVariants.{Lui, Auipc, Jal, Jalr, Branch, Load, Store, OpImmediate, Shift, Op, Fence, Amo, LoadReserved, StoreConditional, Ecall, Ebreak}
use Rattle.rv_isa.specs.declared.kinds.LoadKind.{LoadKind}
use Rattle.rv_isa.specs.Table.{insn_of}
use Rattle.rv_exec.specs.Registers.{Registers, register}
use Rattle.rv_exec.specs.Access.{load_width, store_width}
use Rattle.rv_exec.specs.Amo.{amo_result}
use Rattle.rv_exec.specs.Line.{Line, landed, jumped, branched, after_load, load_line, after_store, store_line, after_amo, amo_line, after_reserving, reserving_line, after_conditional, conditional_line, insn_line, decoded_line, fetched_line, line, address_at}
use Rattle.rv_exec.specs.Uses.{data_pages, data_stores, decoded_pages, decoded_stores, pages_used, pages_stored, fetched_pages, fetched_stores}
use Rattle.env_calls.specs.Step.{served_pages, served_stores, step_pages, step_stores}
use Rattle.guest_strings.specs.Yields.{served_yields, step_yields}
use Rattle.guest_strings.specs.InsnPages.{insn_pages, insn_stores, insn_yields}

-- ---- a line that makes no call uses no more pages

abbrev Quiet : Registers → Memory → Line → Type 0
Quiet regs memory at = (served_pages regs memory at ≡ []) × (served_stores regs memory at ≡ []) × (served_yields regs at ≡ false)

quiet_landed : (regs : Registers) (memory : Memory) (rd target : ℕ) (aligned : Bool) → Quiet regs memory (landed regs memory rd target aligned)
quiet_landed regs memory rd target true = (refl, refl, refl)
quiet_landed regs memory rd target false = (refl, refl, refl)

quiet_jumped : (regs : Registers) (memory : Memory) (rd target : ℕ) → Quiet regs memory (jumped regs memory rd target)
unfolding jumped
quiet_jumped regs memory rd target = quiet_landed regs memory rd target (target % 4 == 0)

quiet_branched : (regs : Registers) (memory : Memory) (target : ℕ) (taken : Bool) → Quiet regs memory (branched regs memory target taken)
quiet_branched regs memory target true = quiet_jumped regs memory 0 target
quiet_branched regs memory target false = (refl, refl, refl)

quiet_load : (regs : Registers) (memory : Memory) (kind : LoadKind) (rd address : ℕ) (found : Result ℕ MemoryFault)
    → Quiet regs memory (after_load regs memory kind rd address found)
quiet_load regs memory kind rd address (Ok number) = (refl, refl, refl)
quiet_load regs memory kind rd address (Err fault) = (refl, refl, refl)

quiet_store : (regs : Registers) (memory : Memory) (address : ℕ) (found : Result Memory MemoryFault) → Quiet regs memory (after_store regs address found)
quiet_store regs memory address (Ok changed) = (refl, refl, refl)
quiet_store regs memory address (Err fault) = (refl, refl, refl)

quiet_amo : (regs : Registers) (memory : Memory) (rd address : ℕ) (found : Result (ℕ × Memory) MemoryFault)
    → Quiet regs memory (after_amo regs rd address found)
quiet_amo regs memory rd address (Ok answer) = (refl, refl, refl)
quiet_amo regs memory rd address (Err fault) = (refl, refl, refl)

quiet_reserving : (regs : Registers) (memory : Memory) (rd address : ℕ) (found : Result (ℕ × Memory) MemoryFault)
    → Quiet regs memory (after_reserving regs rd address found)
quiet_reserving regs memory rd address (Ok answer) = (refl, refl, refl)
quiet_reserving regs memory rd address (Err fault) = (refl, refl, refl)

quiet_conditional : (regs : Registers) (memory : Memory) (rd address : ℕ) (found : Result (Bool × Memory) MemoryFault)
    → Quiet regs memory (after_conditional regs rd address found)
quiet_conditional regs memory rd address (Ok answer) = (refl, refl, refl)
quiet_conditional regs memory rd address (Err fault) = (refl, refl, refl)

-- ---- an instruction's pages

both : (a b : List ℕ) → b ≡ [] → a ++ b ≡ a
both a b e = ap (λ l. a ++ l) e ∙ append-nil a

pages_insn : (hart : ℕ) (regs : Registers) (memory : Memory) (insn : Insn)
    → data_pages regs memory insn ++ served_pages regs memory (insn_line hart regs memory insn) ≡ insn_pages regs memory insn
unfolding data_pages insn_line load_line store_line amo_line reserving_line conditional_line
pages_insn hart regs memory (Lui rd immediate) = refl
pages_insn hart regs memory (Auipc rd immediate) = refl
pages_insn hart regs memory (Jal rd offset) = (quiet_jumped regs memory rd _).0
pages_insn hart regs memory (Jalr rd rs1 offset) = (quiet_jumped regs memory rd _).0
pages_insn hart regs memory (Branch kind rs1 rs2 offset) = (quiet_branched regs memory _ _).0
pages_insn hart regs memory (Load kind rd rs1 offset) =
    both _ _ (quiet_load regs memory kind rd (address_at regs rs1 offset) (loaded memory (load_width kind) (address_at regs rs1 offset))).0
pages_insn hart regs memory (Store kind rs1 rs2 offset) =
    both _ _ (quiet_store regs memory (address_at regs rs1 offset) (stored memory (store_width kind) (address_at regs rs1 offset) (register regs rs2))).0
pages_insn hart regs memory (OpImmediate kind rd rs1 immediate) = refl
pages_insn hart regs memory (Shift kind rd rs1 amount) = refl
pages_insn hart regs memory (Op kind rd rs1 rs2) = refl
pages_insn hart regs memory (Fence kept rd rs1) = refl
pages_insn hart regs memory (Amo kind acquire release rd rs1 rs2) =
    both _ _ (quiet_amo regs memory rd (register regs rs1) (replaced memory (λ old. amo_result kind old (register regs rs2)) (register regs rs1))).0
pages_insn hart regs memory (LoadReserved acquire release rd rs1) =
    both _ _ (quiet_reserving regs memory rd (register regs rs1) (loaded_reserved memory hart (register regs rs1))).0
pages_insn hart regs memory (StoreConditional acquire release rd rs1 rs2) =
    both _ _ (quiet_conditional regs memory rd (register regs rs1) (stored_conditionally memory hart (register regs rs1) (register regs rs2))).0
pages_insn hart regs memory Ecall = refl
pages_insn hart regs memory Ebreak = refl

stores_insn : (hart : ℕ) (regs : Registers) (memory : Memory) (insn : Insn)
    → data_stores regs memory insn ++ served_stores regs memory (insn_line hart regs memory insn) ≡ insn_stores regs memory insn
unfolding data_stores insn_line load_line store_line amo_line reserving_line conditional_line
stores_insn hart regs memory (Lui rd immediate) = refl
stores_insn hart regs memory (Auipc rd immediate) = refl
stores_insn hart regs memory (Jal rd offset) = (quiet_jumped regs memory rd _).1
stores_insn hart regs memory (Jalr rd rs1 offset) = (quiet_jumped regs memory rd _).1
stores_insn hart regs memory (Branch kind rs1 rs2 offset) = (quiet_branched regs memory _ _).1
stores_insn hart regs memory (Load kind rd rs1 offset) =
    (quiet_load regs memory kind rd (address_at regs rs1 offset) (loaded memory (load_width kind) (address_at regs rs1 offset))).1
stores_insn hart regs memory (Store kind rs1 rs2 offset) =
    both _ _ (quiet_store regs memory (address_at regs rs1 offset) (stored memory (store_width kind) (address_at regs rs1 offset) (register regs rs2))).1
stores_insn hart regs memory (OpImmediate kind rd rs1 immediate) = refl
stores_insn hart regs memory (Shift kind rd rs1 amount) = refl
stores_insn hart regs memory (Op kind rd rs1 rs2) = refl
stores_insn hart regs memory (Fence kept rd rs1) = refl
stores_insn hart regs memory (Amo kind acquire release rd rs1 rs2) =
    both _ _ (quiet_amo regs memory rd (register regs rs1) (replaced memory (λ old. amo_result kind old (register regs rs2)) (register regs rs1))).1
stores_insn hart regs memory (LoadReserved acquire release rd rs1) =
    (quiet_reserving regs memory rd (register regs rs1) (loaded_reserved memory hart (register regs rs1))).1
stores_insn hart regs memory (StoreConditional acquire release rd rs1 rs2) =
    both _ _ (quiet_conditional regs memory rd (register regs rs1) (stored_conditionally memory hart (register regs rs1) (register regs rs2))).1
stores_insn hart regs memory Ecall = refl
stores_insn hart regs memory Ebreak = refl

yields_insn : (hart : ℕ) (regs : Registers) (memory : Memory) (insn : Insn) → served_yields regs (insn_line hart regs memory insn) ≡ insn_yields regs insn
unfolding insn_line load_line store_line amo_line reserving_line conditional_line
yields_insn hart regs memory (Lui rd immediate) = refl
yields_insn hart regs memory (Auipc rd immediate) = refl
yields_insn hart regs memory (Jal rd offset) = (quiet_jumped regs memory rd _).2
yields_insn hart regs memory (Jalr rd rs1 offset) = (quiet_jumped regs memory rd _).2
yields_insn hart regs memory (Branch kind rs1 rs2 offset) = (quiet_branched regs memory _ _).2
yields_insn hart regs memory (Load kind rd rs1 offset) =
    (quiet_load regs memory kind rd (address_at regs rs1 offset) (loaded memory (load_width kind) (address_at regs rs1 offset))).2
yields_insn hart regs memory (Store kind rs1 rs2 offset) =
    (quiet_store regs memory (address_at regs rs1 offset) (stored memory (store_width kind) (address_at regs rs1 offset) (register regs rs2))).2
yields_insn hart regs memory (OpImmediate kind rd rs1 immediate) = refl
yields_insn hart regs memory (Shift kind rd rs1 amount) = refl
yields_insn hart regs memory (Op kind rd rs1 rs2) = refl
yields_insn hart regs memory (Fence kept rd rs1) = refl
yields_insn hart regs memory (Amo kind acquire release rd rs1 rs2) =
    (quiet_amo regs memory rd (register regs rs1) (replaced memory (λ old. amo_result kind old (register regs rs2)) (register regs rs1))).2
yields_insn hart regs memory (LoadReserved acquire release rd rs1) =
    (quiet_reserving regs memory rd (register regs rs1) (loaded_reserved memory hart (register regs rs1))).2
yields_insn hart regs memory (StoreConditional acquire release rd rs1 rs2) =
    (quiet_conditional regs memory rd (register regs rs1) (stored_conditionally memory hart (register regs rs1) (register regs rs2))).2
yields_insn hart regs memory Ecall = refl
yields_insn hart regs memory Ebreak = refl

-- ---- a step's pages, by its fetch

abbrev pages_by : ℕ → Registers → Memory → Result ℕ MemoryFault → List ℕ
pages_by hart regs memory found = fetched_pages regs memory found ++ served_pages regs memory (fetched_line hart regs memory found)

abbrev stores_by : ℕ → Registers → Memory → Result ℕ MemoryFault → List ℕ
stores_by hart regs memory found = fetched_stores regs memory found ++ served_stores regs memory (fetched_line hart regs memory found)

pages_are : (hart : ℕ) (regs : Registers) (memory : Memory) (found : Result ℕ MemoryFault) → found ≡ fetched memory regs.pc
    → step_pages hart regs memory ≡ pages_by hart regs memory found
unfolding step_pages pages_used line
pages_are hart regs memory found e = ap (pages_by hart regs memory) (sym e)

stores_are : (hart : ℕ) (regs : Registers) (memory : Memory) (found : Result ℕ MemoryFault) → found ≡ fetched memory regs.pc
    → step_stores hart regs memory ≡ stores_by hart regs memory found
unfolding step_stores pages_stored line
stores_are hart regs memory found e = ap (stores_by hart regs memory) (sym e)

abbrev decoded_by : ℕ → Registers → Memory → ℕ → Option Insn → List ℕ
decoded_by hart regs memory word insn = page_number regs.pc ∷ (decoded_pages regs memory insn ++ served_pages regs memory (decoded_line hart regs memory word insn))

abbrev decoded_stores_by : ℕ → Registers → Memory → ℕ → Option Insn → List ℕ
decoded_stores_by hart regs memory word insn = decoded_stores regs memory insn ++ served_stores regs memory (decoded_line hart regs memory word insn)

pub pages_of_word : (hart : ℕ) (regs : Registers) (memory : Memory) (word : ℕ) (insn : Insn) → Ok word ≡ fetched memory regs.pc → Some insn ≡ insn_of word
    → step_pages hart regs memory ≡ page_number regs.pc ∷ insn_pages regs memory insn
pages_of_word hart regs memory word insn e d =
    pages_are hart regs memory (Ok word) e ∙ (ap (decoded_by hart regs memory word) (sym d) ∙ ap (λ l. page_number regs.pc ∷ l) (pages_insn hart regs memory insn))

pub stores_of_word : (hart : ℕ) (regs : Registers) (memory : Memory) (word : ℕ) (insn : Insn) → Ok word ≡ fetched memory regs.pc → Some insn ≡ insn_of word
    → step_stores hart regs memory ≡ insn_stores regs memory insn
stores_of_word hart regs memory word insn e d =
    stores_are hart regs memory (Ok word) e ∙ (ap (decoded_stores_by hart regs memory word) (sym d) ∙ stores_insn hart regs memory insn)

pub pages_of_illegal : (hart : ℕ) (regs : Registers) (memory : Memory) (word : ℕ) → Ok word ≡ fetched memory regs.pc → None ≡ insn_of word
    → step_pages hart regs memory ≡ page_number regs.pc ∷ []
pages_of_illegal hart regs memory word e d = pages_are hart regs memory (Ok word) e ∙ ap (decoded_by hart regs memory word) (sym d)

pub stores_of_illegal : (hart : ℕ) (regs : Registers) (memory : Memory) (word : ℕ) → Ok word ≡ fetched memory regs.pc → None ≡ insn_of word
    → step_stores hart regs memory ≡ []
stores_of_illegal hart regs memory word e d = stores_are hart regs memory (Ok word) e ∙ ap (decoded_stores_by hart regs memory word) (sym d)

pub pages_of_fault : (hart : ℕ) (regs : Registers) (memory : Memory) (fault : MemoryFault) → Err fault ≡ fetched memory regs.pc → step_pages hart regs memory ≡ []
pages_of_fault hart regs memory fault e = pages_are hart regs memory (Err fault) e

pub stores_of_fault : (hart : ℕ) (regs : Registers) (memory : Memory) (fault : MemoryFault) → Err fault ≡ fetched memory regs.pc → step_stores hart regs memory ≡ []
stores_of_fault hart regs memory fault e = stores_are hart regs memory (Err fault) e

-- ---- whether it yields, by its fetch

yields_are : (hart : ℕ) (regs : Registers) (memory : Memory) (found : Result ℕ MemoryFault) → found ≡ fetched memory regs.pc
    → step_yields hart regs memory ≡ served_yields regs (fetched_line hart regs memory found)
unfolding step_yields line
yields_are hart regs memory found e = ap (λ f. served_yields regs (fetched_line hart regs memory f)) (sym e)

pub yields_of_word : (hart : ℕ) (regs : Registers) (memory : Memory) (word : ℕ) (insn : Insn) → Ok word ≡ fetched memory regs.pc → Some insn ≡ insn_of word
    → step_yields hart regs memory ≡ insn_yields regs insn
yields_of_word hart regs memory word insn e d =
    yields_are hart regs memory (Ok word) e ∙ (ap (λ i. served_yields regs (decoded_line hart regs memory word i)) (sym d) ∙ yields_insn hart regs memory insn)

pub yields_of_illegal : (hart : ℕ) (regs : Registers) (memory : Memory) (word : ℕ) → Ok word ≡ fetched memory regs.pc → None ≡ insn_of word
    → step_yields hart regs memory ≡ false
yields_of_illegal hart regs memory word e d = yields_are hart regs memory (Ok word) e ∙ ap (λ i. served_yields regs (decoded_line hart regs memory word i)) (sym d)

pub yields_of_fault : (hart : ℕ) (regs : Registers) (memory : Memory) (fault : MemoryFault) → Err fault ≡ fetched memory regs.pc → step_yields hart regs memory ≡ false
yields_of_fault hart regs memory fault e = yields_are hart regs memory (Err fault) e
