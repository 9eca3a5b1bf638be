-- A hart's registers (unprivileged manual, "Programmers' Model for Base Integer ISA"): pc and x1 to x31.
-- x0 is no register of the state: it reads 0, and what is written to it is lost.
use Rattle.std.specs.Prelude.{◌≡◌, ℕ, zero, suc, ◌+◌, ◌%◌, ◌^◌, List, [], ◌∷◌, drop, length, slice_index, slice_set, replicate}
use Rattle.std.proofs.Common.{arith, ap, sym}

pub record Registers : Type 0 where
  pub pc : ℕ
  pub x : List ℕ

-- what an instruction reads from a register
unfoldable pub register : Registers → ℕ → ℕ
register regs zero = 0
register regs (suc n) = slice_index regs.x n

-- the registers after a value is written to one
unfoldable pub with_register : Registers → ℕ → ℕ → Registers
with_register regs zero value = regs
with_register regs (suc n) value = record regs { x = slice_set regs.x n value }

-- the registers with another pc
unfoldable pub with_pc : Registers → ℕ → Registers
with_pc regs pc = record regs { pc = pc }

-- the address of the next instruction; addresses wrap
unfoldable pub next_pc : Registers → ℕ
next_pc regs = (regs.pc + 4) % 2 ^ 32

-- the registers of a hart that has run nothing: all are 0 but pc
unfoldable pub cleared : ℕ → Registers
cleared pc = record { pc = pc; x = replicate 31 0 }

-- of an array of 32 words, whose first stays 0, nothing else is left out
pub with_zero : (xs : List ℕ) → length xs ≡ 32 → slice_index xs 0 ≡ 0 → 0 ∷ drop 1 xs ≡ xs
with_zero [] wide h = absurd (omega arith)
with_zero (x ∷ xs) wide h = ap (λ y. y ∷ xs) (sym h)
