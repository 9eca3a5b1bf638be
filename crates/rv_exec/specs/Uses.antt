-- The pages that an instruction uses, each where its access is aligned and the page has the right.
use Rattle.std.specs.Prelude.{ℕ, List, [], ◌∷◌, Option, Some, None, Result, Ok, Err}
use Rattle.page_memory.specs.declared.fault.MemoryFault.{MemoryFault}
use Rattle.page_memory.specs.Words.{page_number}
use Rattle.page_memory.specs.Memory.{Memory, fetched, loaded, stored, replaced}
use Rattle.rv_isa.specs.declared.instruction.Insn.{Insn}
use Rattle.rv_isa.specs.declared.instruction.Insn.TheVariants.{Load, Store, Amo, LoadReserved, StoreConditional}
use Rattle.rv_isa.specs.declared.kinds.LoadKind.{LoadKind}
use Rattle.rv_isa.specs.declared.kinds.LoadKind.TheVariants.{Lw}
use Rattle.rv_isa.specs.declared.kinds.StoreKind.{StoreKind}
use Rattle.rv_isa.specs.declared.kinds.StoreKind.TheVariants.{Sw}
use Rattle.rv_isa.specs.declared.kinds.AmoKind.{AmoKind}
use Rattle.rv_isa.specs.Table.{insn_of}
use Rattle.rv_exec.specs.Registers.{Registers, register}
use Rattle.rv_exec.specs.Access.{load_width, store_width}
use Rattle.rv_exec.specs.Amo.{amo_result}
use Rattle.rv_exec.specs.Line.{address_at}

-- the page of an access that memory allows
abbrev pub page_of_access : {A : Type 0} → ℕ → Result A MemoryFault → List ℕ
page_of_access address (Ok answer) = page_number address ∷ []
page_of_access address (Err fault) = []

unfoldable pub load_pages : Memory → LoadKind → ℕ → List ℕ
load_pages memory kind address = page_of_access address (loaded memory (load_width kind) address)

unfoldable pub store_pages : Memory → StoreKind → ℕ → ℕ → List ℕ
store_pages memory kind address word = page_of_access address (stored memory (store_width kind) address word)

unfoldable pub amo_pages : Memory → AmoKind → ℕ → ℕ → List ℕ
amo_pages memory kind address operand =
    page_of_access address (replaced memory (λ old. amo_result kind old operand) address)

-- the page of what an instruction loads or stores: LR.W loads a word, and SC.W stores one, whether it stores or not
unfoldable pub data_pages : Registers → Memory → Insn → List ℕ
data_pages regs memory (Load kind rd rs1 offset) = load_pages memory kind (address_at regs rs1 offset)
data_pages regs memory (Store kind rs1 rs2 offset) =
    store_pages memory kind (address_at regs rs1 offset) (register regs rs2)
data_pages regs memory (Amo kind acquire release rd rs1 rs2) =
    amo_pages memory kind (register regs rs1) (register regs rs2)
data_pages regs memory (LoadReserved acquire release rd rs1) = load_pages memory Lw (register regs rs1)
data_pages regs memory (StoreConditional acquire release rd rs1 rs2) =
    store_pages memory Sw (register regs rs1) (register regs rs2)
data_pages regs memory _ = []

abbrev pub decoded_pages : Registers → Memory → Option Insn → List ℕ
decoded_pages regs memory None = []
decoded_pages regs memory (Some insn) = data_pages regs memory insn

abbrev pub fetched_pages : Registers → Memory → Result ℕ MemoryFault → List ℕ
fetched_pages regs memory (Ok word) = page_number regs.pc ∷ decoded_pages regs memory (insn_of word)
fetched_pages regs memory (Err fault) = []

-- the page of the fetch, then those of the data
unfoldable pub pages_used : Registers → Memory → List ℕ
pages_used regs memory = fetched_pages regs memory (fetched memory regs.pc)

-- ---- the pages among them that it stores to

-- an atomic operation stores, whatever it leaves, and so does SC.W, whether it stores or not
unfoldable pub data_stores : Registers → Memory → Insn → List ℕ
data_stores regs memory (Store kind rs1 rs2 offset) =
    store_pages memory kind (address_at regs rs1 offset) (register regs rs2)
data_stores regs memory (Amo kind acquire release rd rs1 rs2) =
    amo_pages memory kind (register regs rs1) (register regs rs2)
data_stores regs memory (StoreConditional acquire release rd rs1 rs2) =
    store_pages memory Sw (register regs rs1) (register regs rs2)
data_stores regs memory _ = []

abbrev pub decoded_stores : Registers → Memory → Option Insn → List ℕ
decoded_stores regs memory None = []
decoded_stores regs memory (Some insn) = data_stores regs memory insn

abbrev pub fetched_stores : Registers → Memory → Result ℕ MemoryFault → List ℕ
fetched_stores regs memory (Ok word) = decoded_stores regs memory (insn_of word)
fetched_stores regs memory (Err fault) = []

unfoldable pub pages_stored : Registers → Memory → List ℕ
pages_stored regs memory = fetched_stores regs memory (fetched memory regs.pc)
