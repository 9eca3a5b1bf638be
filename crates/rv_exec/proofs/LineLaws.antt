-- What a hart's next line and the pages that it uses are, by what memory answers to the fetch.
use Rattle.std.specs.Prelude.{◌≡◌, ℕ, zero, suc, List, [], ◌∷◌, Result, Ok, Err, All, Contains, IsOk, refl}
use Rattle.std.proofs.Common.{arith, ap, sym, subst, ◌∙◌}
use Rattle.page_memory.specs.declared.fault.MemoryFault.{MemoryFault}
use Rattle.page_memory.specs.Words.{page_number}
use Rattle.page_memory.specs.Memory.{Memory, fetched}
use Rattle.rv_isa.specs.Table.{insn_of}
use Rattle.rv_exec.specs.Causes.{fetch_cause}
use Rattle.rv_exec.specs.declared.outcome.Outcome.{Outcome}
use Rattle.rv_exec.specs.declared.outcome.Outcome.TheVariants.{Done, Ecall, Trap, Absent}
use Rattle.rv_exec.specs.Registers.{Registers}
use Rattle.rv_exec.specs.Line.{Traps, decoded_line, fetched_line, line}
use Rattle.rv_exec.specs.Uses.{decoded_pages, fetched_pages, pages_used}
use Rattle.rv_exec.specs.Outcomes.{Used, UsesPages}

-- ---- the line

pub line_fetched : (hart : ℕ) (regs : Registers) (memory : Memory) (word : ℕ) → fetched memory regs.pc ≡ Ok word → line hart regs memory ≡ decoded_line hart regs memory word (insn_of word)
unfolding line
line_fetched hart regs memory word h = ap (fetched_line hart regs memory) h

pub line_fault : (hart : ℕ) (regs : Registers) (memory : Memory) (fault : MemoryFault) → fetched memory regs.pc ≡ Err fault → line hart regs memory ≡ Traps (fetch_cause fault) regs.pc
unfolding line
line_fault hart regs memory fault h = ap (fetched_line hart regs memory) h

-- ---- the pages

pages_fetched : (regs : Registers) (memory : Memory) (word : ℕ) → fetched memory regs.pc ≡ Ok word → pages_used regs memory ≡ page_number regs.pc ∷ decoded_pages regs memory (insn_of word)
unfolding pages_used
pages_fetched regs memory word h = ap (fetched_pages regs memory) h

pages_fault : (regs : Registers) (memory : Memory) (fault : MemoryFault) → fetched memory regs.pc ≡ Err fault → pages_used regs memory ≡ []
unfolding pages_used
pages_fault regs memory fault h = ap (fetched_pages regs memory) h

pub all_front : (P : ℕ → Type 0) (page : ℕ) (pages : List ℕ) → P page → All P pages → All P (page ∷ pages)
all_front P page pages h g zero d k = h
all_front P page pages h g (suc k) d b = g k d (omega arith)

pub all_none : (P : ℕ → Type 0) → All P []
all_none P k d h = absurd (omega arith)

contains_behind : (page other : ℕ) (pages : List ℕ) → Contains pages page → Contains (other ∷ pages) page
contains_behind page other pages h = (suc h.0, omega arith, h.2)

-- the pages that a word uses are that of its fetch and those of its data
pub uses_fetched : (has marks lacks has' marks' lacks' : ℕ → Type 0) (regs : Registers) (memory memory' : Memory) (word : ℕ) (outcome : Outcome)
    → fetched memory regs.pc ≡ Ok word → memory' ≡ memory
    → ((page : ℕ) → has' page → has page) → ((page : ℕ) → lacks' page → lacks page) → ((page : ℕ) → marks page → marks' page)
    → has (page_number regs.pc) → marks (page_number regs.pc)
    → UsesPages has' marks' lacks' (decoded_pages regs memory' (insn_of word)) outcome
    → UsesPages has marks' lacks (pages_used regs memory) outcome
uses_fetched has marks lacks has' marks' lacks' regs memory memory' word outcome h e had lacked marked first mark rest =
    let data_used : List ℕ = decoded_pages regs memory' (insn_of word) in
    let whole : pages_used regs memory ≡ page_number regs.pc ∷ data_used =
    pages_fetched regs memory word h ∙ ap (λ m. page_number regs.pc ∷ decoded_pages regs m (insn_of word)) (sym e) in
    let all : Used has' marks' data_used → Used has marks' (page_number regs.pc ∷ data_used) =
    λ g. (
      all_front has (page_number regs.pc) data_used first (λ k d b. had _ (g.0 k d b)),
      all_front marks' (page_number regs.pc) data_used (marked _ mark) g.1,
    ) in
    subst (λ pages. UsesPages has marks' lacks pages outcome) (sym whole)
    (elim outcome as (λ o. UsesPages has' marks' lacks' data_used o → UsesPages has marks' lacks (page_number regs.pc ∷ data_used) o) [
      | Done ↦ all
      | Ecall ↦ all
      | Trap cause value ↦ all
      | Absent page ↦ λ g. (contains_behind page (page_number regs.pc) data_used g.0, lacked page g.1)
    ] rest)

pub used_fault : (has marks : ℕ → Type 0) (regs : Registers) (memory : Memory) (fault : MemoryFault) → fetched memory regs.pc ≡ Err fault → Used has marks (pages_used regs memory)
used_fault has marks regs memory fault h = subst (Used has marks) (sym (pages_fault regs memory fault h)) (all_none has, all_none marks)

contains_first : (regs : Registers) (memory : Memory) (answer : Result ℕ MemoryFault) → IsOk answer → Contains (fetched_pages regs memory answer) (page_number regs.pc)
contains_first regs memory (Ok word) h = (zero, omega arith, refl)
contains_first regs memory (Err fault) h = absurd (cc)

pub contains_fetch : (regs : Registers) (memory : Memory) (page : ℕ) → page ≡ page_number regs.pc → IsOk (fetched memory regs.pc) → Contains (pages_used regs memory) page
unfolding pages_used
contains_fetch regs memory page e h = subst (Contains (fetched_pages regs memory (fetched memory regs.pc))) (sym e) (contains_first regs memory (fetched memory regs.pc) h)
