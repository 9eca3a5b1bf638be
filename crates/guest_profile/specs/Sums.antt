-- What steps do, in numbers.
use Rattle.std.specs.Prelude.{ℕ, ◌-◌, Bool, if◌then◌else◌}
use Rattle.rv_isa.specs.declared.instruction.Insn.{Insn}
use Rattle.rv_isa.specs.declared.instruction.Insn.TheVariants.{Load, LoadReserved, Store, StoreConditional, Amo, Branch}
use Rattle.guest_profile.specs.declared.sums.Sums.{Sums}
use Rattle.guest_profile.specs.Counting.{more}

abbrev pub accesses : ℕ → ℕ → ℕ → Sums
accesses steps loads stores = record { steps = steps; loads = loads; stores = stores; branches = 0; taken = 0 }

abbrev pub nothing : Sums
nothing = accesses 0 0 0

-- of an instruction that ran so often, and so often went on elsewhere than at the next one; an atomic operation loads and stores
abbrev pub sums_of : Insn → ℕ → ℕ → Sums
sums_of (Load kind rd rs1 offset) steps taken = accesses steps steps 0
sums_of (LoadReserved acquire release rd rs1) steps taken = accesses steps steps 0
sums_of (Store kind rs1 rs2 offset) steps taken = accesses steps 0 steps
sums_of (StoreConditional acquire release rd rs1 rs2) steps taken = accesses steps 0 steps
sums_of (Amo kind acquire release rd rs1 rs2) steps taken = accesses steps steps steps
sums_of (Branch kind rs1 rs2 offset) steps taken = record { steps = steps; loads = 0; stores = 0; branches = steps; taken = taken }
sums_of _ steps taken = accesses steps 0 0

-- of one step, where its hart went on elsewhere than at the next instruction, or not
abbrev pub step_of : Insn → Bool → Sums
step_of insn is_taken = sums_of insn 1 (if is_taken then 1 else 0)

-- these steps and others
unfoldable pub both : Sums → Sums → Sums
both one other = record {
  steps = more one.steps other.steps;
  loads = more one.loads other.loads;
  stores = more one.stores other.stores;
  branches = more one.branches other.branches;
  taken = more one.taken other.taken;
}

-- these steps without others, which are among them
unfoldable pub without : Sums → Sums → Sums
without one other = record {
  steps = one.steps - other.steps;
  loads = one.loads - other.loads;
  stores = one.stores - other.stores;
  branches = one.branches - other.branches;
  taken = one.taken - other.taken;
}
