-- What several accesses in turn may have marked.
use Rattle.std.specs.Prelude.{◌≡◌, ℕ, suc, Bool, true, List, [], ◌∷◌, Result, Ok, Err}
use Rattle.std.proofs.Common.{arith, sym, ap, subst, ◌∙◌}
use Rattle.page_memory.specs.declared.fault.MemoryFault.{MemoryFault}
use Rattle.page_memory.specs.Words.{page_number}
use Rattle.page_memory.specs.Memory.{Memory, fetched}
use Rattle.rv_isa.specs.Table.{insn_of}
use Rattle.rv_exec.specs.Registers.{Registers}
use Rattle.rv_exec.specs.Bounds.{Pass, Bounds}
use Rattle.rv_exec.proofs.LineLaws.{all_front, all_none}
use Rattle.rv_exec.specs.Uses.{page_of_access, decoded_pages, decoded_stores, fetched_pages, fetched_stores, pages_used, pages_stored}

-- ---- an instruction: its fetch, and then what the word does

first_passes : (test : ℕ → Bool) (page : ℕ) (rest : List ℕ) → Pass test (page ∷ rest) → Pass test (page ∷ [])
first_passes test page rest passes = all_front (λ p. test p ≡ true) page [] (passes 0 page (omega arith)) (all_none (λ p. test p ≡ true))

rest_passes : (test : ℕ → Bool) (page : ℕ) (rest : List ℕ) → Pass test (page ∷ rest) → Pass test rest
rest_passes test page rest passes = λ k d within. passes (suc k) d (omega arith)

pages_fetched : (regs : Registers) (memory : Memory) (word : ℕ) → fetched memory regs.pc ≡ Ok word
    → pages_used regs memory ≡ page_number regs.pc ∷ decoded_pages regs memory (insn_of word)
unfolding pages_used
pages_fetched regs memory word h = ap (fetched_pages regs memory) h

pub stores_fetched : (regs : Registers) (memory : Memory) (word : ℕ) → fetched memory regs.pc ≡ Ok word
    → pages_stored regs memory ≡ decoded_stores regs memory (insn_of word)
unfolding pages_stored
stores_fetched regs memory word h = ap (fetched_stores regs memory) h

-- the fetch was answered, and the accesses of its word followed
pub bounds_fetched : (before between after : (ℕ → Bool) → (ℕ → Bool) → Type 0) (regs : Registers) (memory memory' : Memory) (word : ℕ)
    → fetched memory regs.pc ≡ Ok word → memory' ≡ memory
    → Bounds before between (page_of_access regs.pc (fetched memory regs.pc)) []
    → Bounds between after (decoded_pages regs memory' (insn_of word)) (decoded_stores regs memory' (insn_of word))
    → Bounds before after (pages_used regs memory) (pages_stored regs memory)
bounds_fetched before between after regs memory memory' word h e first rest =
    let insn = insn_of word in
    let page = page_number regs.pc in
    let used : pages_used regs memory ≡ page ∷ decoded_pages regs memory' insn =
    pages_fetched regs memory word h ∙ ap (λ m. page ∷ decoded_pages regs m insn) (sym e) in
    let stored : pages_stored regs memory ≡ decoded_stores regs memory' insn =
    stores_fetched regs memory word h ∙ ap (λ m. decoded_stores regs m insn) (sym e) in
    record {
      bound = λ u s passes stores was.
          let pages : Pass u (page ∷ decoded_pages regs memory' insn) = subst (Pass u) used passes in
          let fetch : Pass u (page_of_access regs.pc (fetched memory regs.pc)) =
          subst (λ answer. Pass u (page_of_access regs.pc answer)) (sym h) (first_passes u page (decoded_pages regs memory' insn) pages) in
          rest.bound u s (rest_passes u page (decoded_pages regs memory' insn) pages) (subst (Pass s) stored stores)
          (first.bound u s fetch (all_none (λ p. s p ≡ true)) was);
    }

fetch_passes : (test : ℕ → Bool) (regs : Registers) (memory : Memory) (answer : Result ℕ MemoryFault)
    → Pass test (fetched_pages regs memory answer) → Pass test (page_of_access regs.pc answer)
fetch_passes test regs memory (Ok word) passes = first_passes test (page_number regs.pc) (decoded_pages regs memory (insn_of word)) passes
fetch_passes test regs memory (Err fault) passes = all_none (λ p. test p ≡ true)

used_passes : (test : ℕ → Bool) (regs : Registers) (memory : Memory) → Pass test (pages_used regs memory) → Pass test (page_of_access regs.pc (fetched memory regs.pc))
unfolding pages_used
used_passes test regs memory passes = fetch_passes test regs memory (fetched memory regs.pc) passes

-- the fetch was refused
pub bounds_refused : (before after : (ℕ → Bool) → (ℕ → Bool) → Type 0) (regs : Registers) (memory : Memory)
    → Bounds before after (page_of_access regs.pc (fetched memory regs.pc)) []
    → Bounds before after (pages_used regs memory) (pages_stored regs memory)
bounds_refused before after regs memory first = record {
  bound = λ u s passes stores was. first.bound u s (used_passes u regs memory passes) (all_none (λ p. s p ≡ true)) was;
}
