-- Calls, returns and branches, by the calling convention of the RISC-V ELF psABI: x1 (ra) and x5 (the alternate link register) hold
-- return addresses.
use Rattle.std.specs.Prelude.{ℕ, Bool, ◌==◌, ◌||◌, ◌&&◌, cond}
use Rattle.rv_isa.specs.declared.instruction.Insn.{Insn}
use Rattle.rv_isa.specs.declared.instruction.Insn.TheVariants.{Jal, Jalr, Branch as BranchInsn}
use Rattle.guest_steps.specs.declared.flow.Flow.{Flow}
use Rattle.guest_steps.specs.declared.flow.Flow.TheVariants.{Call, Return, Branch, Other}

abbrev pub is_link : ℕ → Bool
is_link number = (number == 1) || (number == 5)

abbrev pub jump_register : ℕ → ℕ → Flow
jump_register rd rs1 = cond (is_link rd) Call (cond ((rd == 0) && is_link rs1) Return Other)

abbrev pub flow_of : Insn → Flow
flow_of (Jal rd offset) = cond (is_link rd) Call Other
flow_of (Jalr rd rs1 offset) = jump_register rd rs1
flow_of (BranchInsn kind rs1 rs2 offset) = Branch
flow_of _ = Other
