-- How an array of 32 words, whose first stays 0, stands for x1 to x31.
use Rattle.std.specs.Prelude.{◌≡◌, ◌<◌, ℕ, zero, suc, ◌+◌, ◌%◌, ◌^◌, List, [], ◌∷◌, drop, slice_index, slice_set, refl}
use Rattle.std.proofs.Common.{arith}
use Rattle.rv_exec.specs.Registers.{Registers, register, with_register, with_pc, next_pc}
use Rattle.rv_exec.specs.Line.{computed}

pub read_at : (pc : ℕ) (xs : List ℕ) (index : ℕ) → slice_index xs 0 ≡ 0 → slice_index xs index ≡ register (record { pc = pc; x = drop 1 xs }) index
unfolding register
read_at pc xs zero h = h
read_at pc [] (suc n) h = refl
read_at pc (x ∷ xs) (suc n) h = refl

pub written_at : (pc : ℕ) (xs : List ℕ) (index value : ℕ)
    → with_register (record { pc = pc; x = drop 1 xs }) index value ≡ record { pc = pc; x = drop 1 (slice_set (slice_set xs index value) 0 0) }
unfolding with_register
written_at pc [] zero value = refl
written_at pc [] (suc n) value = refl
written_at pc (x ∷ xs) zero value = refl
written_at pc (x ∷ xs) (suc n) value = refl

pub put_at : (pc : ℕ) (xs : List ℕ) (index value : ℕ) → 0 < index
    → with_register (record { pc = pc; x = drop 1 xs }) index value ≡ record { pc = pc; x = drop 1 (slice_set xs index value) }
unfolding with_register
put_at pc xs zero value h = absurd (omega arith)
put_at pc [] (suc n) value h = refl
put_at pc (x ∷ xs) (suc n) value h = refl

-- ---- the registers with a pc that stands aside

pub read_aside : (regs : Registers) (pc index : ℕ) → register (with_pc regs pc) index ≡ register regs index
unfolding register with_pc
read_aside regs pc zero = refl
read_aside regs pc (suc n) = refl

pub advanced : (regs : Registers) (pc : ℕ) → with_pc regs ((pc + 4) % 2 ^ 32) ≡ with_pc (with_pc regs pc) (next_pc (with_pc regs pc))
unfolding with_pc next_pc
advanced regs pc = refl

pub computed_aside : (regs : Registers) (pc rd value : ℕ) → with_pc (with_register regs rd value) ((pc + 4) % 2 ^ 32) ≡ computed (with_pc regs pc) rd value
unfolding with_pc next_pc with_register computed
computed_aside regs pc zero value = refl
computed_aside regs pc (suc n) value = refl

pub landed_aside : (regs : Registers) (pc link target : ℕ)
    → with_pc (with_register regs link ((pc + 4) % 2 ^ 32)) target ≡ with_register (with_pc (with_pc regs pc) target) link (next_pc (with_pc regs pc))
unfolding with_pc next_pc with_register
landed_aside regs pc zero target = refl
landed_aside regs pc (suc n) target = refl

-- the pc that the registers have anyway
pub own_pc : (regs : Registers) → with_pc regs regs.pc ≡ regs
unfolding with_pc
own_pc regs = refl

pub pc_aside : (regs : Registers) (pc : ℕ) → (with_pc regs pc).pc ≡ pc
unfolding with_pc
pc_aside regs pc = refl
