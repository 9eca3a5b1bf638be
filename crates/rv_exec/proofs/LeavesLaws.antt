-- What an instruction leaves, by its fetch and its access to data.
use Rattle.std.specs.Prelude.{◌≡◌, ℕ, Bool, refl, List, [], Option, Some, None, Ok, Err, All}
use Rattle.std.proofs.Common.{ap, sym, subst, inl, inr, ◌∙◌}
use Rattle.page_memory.specs.declared.fault.MemoryFault.{MemoryFault}
use Rattle.page_memory.specs.declared.words.Access.{Access}
use Rattle.page_memory.specs.declared.words.Access.TheVariants.{Load, Store}
use Rattle.page_memory.specs.Words.{page_number}
use Rattle.page_memory.specs.Memory.{Memory, fetched, stored, replaced, stored_conditionally}
use Rattle.rv_isa.specs.declared.instruction.Insn.{Insn}
use Rattle.rv_isa.specs.declared.instruction.Insn.TheVariants as insn
use Rattle.rv_isa.specs.declared.kinds.StoreKind.{StoreKind}
use Rattle.rv_isa.specs.declared.kinds.StoreKind.TheVariants.{Sw}
use Rattle.rv_isa.specs.declared.kinds.AmoKind.{AmoKind}
use Rattle.rv_isa.specs.Table.{insn_of}
use Rattle.rv_exec.specs.declared.outcome.Outcome.{Outcome}
use Rattle.rv_exec.specs.declared.outcome.Outcome.TheVariants as outcome
use Rattle.rv_exec.specs.Access.{store_width}
use Rattle.rv_exec.proofs.AccessLaws.{store_used, store_uses_none, amo_used, amo_uses_none, conditional_used, conditional_uses_none}
use Rattle.rv_exec.specs.Amo.{amo_result}
use Rattle.rv_exec.proofs.BoundsLaws.{stores_fetched}
use Rattle.rv_exec.specs.Leaves.{MissedBefore, MissedData, LeavesData, LeavesPages}
use Rattle.rv_exec.proofs.LineLaws.{all_none}
use Rattle.rv_exec.specs.Outcomes.{IsPresent}
use Rattle.rv_exec.specs.Registers.{Registers}
use Rattle.rv_exec.specs.Uses.{store_pages, amo_pages, data_pages, data_stores, decoded_pages, decoded_stores, fetched_stores, pages_stored}

-- ---- a load, and an instruction that has no access to data

pub leaves_nothing : (takes : ℕ → Type 0) (misses : List ℕ → Access → ℕ → Type 0) (outcome : Outcome) → IsPresent outcome → LeavesData takes misses misses [] outcome
leaves_nothing takes misses outcome.Done present = all_none takes
leaves_nothing takes misses outcome.Ecall present = (all_none takes, λ pages access page missed. missed)
leaves_nothing takes misses (outcome.Trap cause value) present = all_none takes
leaves_nothing takes misses (outcome.Absent page) present = absurd present

-- what uses no page stores to none
stores_none : (regs : Registers) (memory : Memory) (i : Insn) → data_pages regs memory i ≡ [] → data_stores regs memory i ≡ []
unfolding data_pages data_stores
stores_none regs memory (insn.Store kind rs1 rs2 offset) none = none
stores_none regs memory (insn.Amo kind acquire release rd rs1 rs2) none = none
stores_none regs memory (insn.StoreConditional acquire release rd rs1 rs2) none = none
stores_none regs memory (insn.Lui rd immediate) none = refl
stores_none regs memory (insn.Auipc rd immediate) none = refl
stores_none regs memory (insn.Jal rd offset) none = refl
stores_none regs memory (insn.Jalr rd rs1 offset) none = refl
stores_none regs memory (insn.Branch kind rs1 rs2 offset) none = refl
stores_none regs memory (insn.Load kind rd rs1 offset) none = refl
stores_none regs memory (insn.OpImmediate kind rd rs1 immediate) none = refl
stores_none regs memory (insn.Shift kind rd rs1 amount) none = refl
stores_none regs memory (insn.Op kind rd rs1 rs2) none = refl
stores_none regs memory (insn.Fence kept rd rs1) none = refl
stores_none regs memory (insn.LoadReserved acquire release rd rs1) none = refl
stores_none regs memory insn.Ecall none = refl
stores_none regs memory insn.Ebreak none = refl

decoded_none : (regs : Registers) (memory : Memory) (i : Option Insn) → decoded_pages regs memory i ≡ [] → decoded_stores regs memory i ≡ []
decoded_none regs memory None none = refl
decoded_none regs memory (Some i) none = stores_none regs memory i none

pub leaves_no_data : (takes : ℕ → Type 0) (misses : List ℕ → Access → ℕ → Type 0) (regs : Registers) (memory : Memory) (i : Option Insn) (outcome : Outcome)
    → decoded_pages regs memory i ≡ [] → IsPresent outcome → LeavesData takes misses misses (decoded_stores regs memory i) outcome
leaves_no_data takes misses regs memory i outcome none present =
    subst (λ stores. LeavesData takes misses misses stores outcome) (sym (decoded_none regs memory i none)) (leaves_nothing takes misses outcome present)

pub missed_load : (missed : Access → ℕ → Type 0) (stores : List ℕ) (page : ℕ) → missed Load page → MissedData missed stores page
missed_load missed stores page was = inl was

pub ruleset loading_leaves = (leaves_nothing, missed_load)

-- ---- an access that stores

pub store_takes : (takes : ℕ → Type 0) (memory : Memory) (kind : StoreKind) (address word : ℕ) (changed : Memory)
    → stored memory (store_width kind) address word ≡ Ok changed → takes (page_number address) → All takes (store_pages memory kind address word)
store_takes takes memory kind address word changed h taken = (store_used takes takes memory kind address word changed h taken taken).0

pub store_takes_none : (takes : ℕ → Type 0) (memory : Memory) (kind : StoreKind) (address word : ℕ) (fault : MemoryFault)
    → stored memory (store_width kind) address word ≡ Err fault → All takes (store_pages memory kind address word)
store_takes_none takes memory kind address word fault h = (store_uses_none takes takes memory kind address word fault h).0

pub amo_takes : (takes : ℕ → Type 0) (memory : Memory) (kind : AmoKind) (address operand : ℕ) (answer : ℕ × Memory)
    → replaced memory (λ word. amo_result kind word operand) address ≡ Ok answer → takes (page_number address) → All takes (amo_pages memory kind address operand)
amo_takes takes memory kind address operand answer h taken = (amo_used takes takes memory kind address operand answer h taken taken).0

pub amo_takes_none : (takes : ℕ → Type 0) (memory : Memory) (kind : AmoKind) (address operand : ℕ) (fault : MemoryFault)
    → replaced memory (λ word. amo_result kind word operand) address ≡ Err fault → All takes (amo_pages memory kind address operand)
amo_takes_none takes memory kind address operand fault h = (amo_uses_none takes takes memory kind address operand fault h).0

pub conditional_takes : (takes : ℕ → Type 0) (memory : Memory) (hart address word : ℕ) (answer : Bool × Memory)
    → stored_conditionally memory hart address word ≡ Ok answer → takes (page_number address) → All takes (store_pages memory Sw address word)
conditional_takes takes memory hart address word answer h taken = (conditional_used takes takes memory hart address word answer h taken taken).0

pub conditional_takes_none : (takes : ℕ → Type 0) (memory : Memory) (hart address word : ℕ) (fault : MemoryFault)
    → stored_conditionally memory hart address word ≡ Err fault → All takes (store_pages memory Sw address word)
conditional_takes_none takes memory hart address word fault h = (conditional_uses_none takes takes memory hart address word fault h).0

-- ---- an instruction: its fetch, and then what the word does

-- the fetch was answered
pub leaves_fetched : (takes marks marks' : ℕ → Type 0) (before between after : List ℕ → Access → ℕ → Type 0) (regs : Registers) (memory memory' : Memory) (word : ℕ) (came : Outcome)
    → fetched memory regs.pc ≡ Ok word → memory' ≡ memory
    → MissedBefore before between (page_number regs.pc) → marks (page_number regs.pc) → ((page : ℕ) → marks page → marks' page)
    → LeavesData takes between after (decoded_stores regs memory' (insn_of word)) came
    → LeavesPages takes marks' before after (page_number regs.pc) (pages_stored regs memory) came
leaves_fetched takes marks marks' before between after regs memory memory' word came h e back mark marked rest =
    let code = page_number regs.pc in
    let stores : List ℕ = decoded_stores regs memory' (insn_of word) in
    let whole : pages_stored regs memory ≡ stores = stores_fetched regs memory word h ∙ ap (λ m. decoded_stores regs m (insn_of word)) (sym e) in
    subst (λ s. LeavesPages takes marks' before after code s came) (sym whole)
    (elim came as (λ o. LeavesData takes between after stores o → LeavesPages takes marks' before after code stores o) [
      | outcome.Done ↦ λ g. g
      | outcome.Ecall ↦ λ g. (g.0, (marked _ mark, λ pages access page missed. back pages access page (g.1 pages access page missed)))
      | outcome.Trap cause value ↦ λ g. g
      | outcome.Absent page ↦ λ g. inr (
        marked _ mark,
        elim g [
          | inl load ↦ inl (back [] Load page load)
          | inr store ↦ inr (store.0, back [] Store page store.1)
        ],
      )
    ] rest)

-- the fetch was refused
pub leaves_unfetched : (takes : ℕ → Type 0) (regs : Registers) (memory : Memory) (fault : MemoryFault) → fetched memory regs.pc ≡ Err fault → All takes (pages_stored regs memory)
unfolding pages_stored
leaves_unfetched takes regs memory fault h = subst (All takes) (sym (ap (fetched_stores regs memory) h)) (all_none takes)
