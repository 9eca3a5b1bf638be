-- Which decoded instruction represents a word at its place.
use Rattle.std.specs.Prelude.{◌≡◌, ℕ, ◌+◌, ◌*◌, [], Option}
use Rattle.page_memory.specs.Memory.{Memory}
use Rattle.rv_isa.specs.declared.instruction.Insn.{Insn}
use Rattle.rv_isa.specs.Table.{insn_of}
use Rattle.rv_exec.specs.Registers.{Registers}
use Rattle.rv_exec.specs.Line.{Next, computed, insn_line, decoded_line}
use Rattle.rv_exec.specs.Uses.{data_pages, data_stores, decoded_pages, decoded_stores}
use Rattle.decoded_pages.specs.declared.instruction.DecodedInstruction.{DecodedInstruction}
use Rattle.decoded_pages.specs.Classes.{class_of, decoded_as, data_of, stores_of, OfClass, HasAligned}

-- unless it is to be run by its word, its line is that of the instruction, whatever the word, the hart, the registers and the memory:
-- for the instruction of that number of the page that starts there; so are the pages of its data
pub record StandsFor (decoded : DecodedInstruction) (start place : ℕ) (insn : Option Insn) : Type 0 where
  pub line : (hart word : ℕ) (regs : Registers) (memory : Memory) → regs.pc ≡ start + place * 4
      → OfClass (class_of decoded.operation) (decoded_line hart regs memory word insn ≡ decoded_as decoded start regs memory)
  pub uses : (regs : Registers) (memory : Memory) → OfClass (class_of decoded.operation) (decoded_pages regs memory insn ≡ data_of decoded regs memory)
  pub stores : (regs : Registers) (memory : Memory) → OfClass (class_of decoded.operation) (decoded_stores regs memory insn ≡ stores_of decoded regs memory)
  pub aligned : HasAligned (class_of decoded.operation) decoded.immediate

-- the same of a word
abbrev pub Stands : DecodedInstruction → ℕ → ℕ → ℕ → Type 0
Stands decoded start place word = StandsFor decoded start place (insn_of word)

-- the instruction writes this value to rd, whatever else is so, and has no data
pub record Writes (insn : Insn) (start place rd value : ℕ) : Type 0 where
  pub line : (hart : ℕ) (regs : Registers) (memory : Memory) → regs.pc ≡ start + place * 4 → insn_line hart regs memory insn ≡ Next (computed regs rd value) memory
  pub uses : (regs : Registers) (memory : Memory) → data_pages regs memory insn ≡ []
  pub stores : (regs : Registers) (memory : Memory) → data_stores regs memory insn ≡ []
