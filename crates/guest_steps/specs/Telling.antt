-- What is reported of a step of a process on flat memory.
use Rattle.std.specs.Prelude.{◌≡◌, ℕ, Some}
use Rattle.page_memory.specs.Memory.{fetched}
use Rattle.rv_exec.specs.Registers.{Registers}
use Rattle.flat_machine.specs.Process.{Process, hart_registers, flat_step}
use Rattle.guest_steps.specs.declared.told_step.ToldStep.{ToldStep}

-- these are a hart's registers, where the hart was started
abbrev pub IsHart : Registers → ℕ → Process → Type 0
IsHart registers hart process = (its : Registers) → hart_registers hart process ≡ Some its → registers ≡ its

-- It is the step of a hart. It reports the hart's registers before the step, and the word that the fetch at their pc gives. It also
-- reports the hart's registers after the step.
pub record TellsStep (told : ToldStep) (hart : ℕ) (old new : Process) : Type 0 where
  pub stepped : flat_step hart old ≡ Some new
  pub whose : told.hart ≡ hart
  pub before : IsHart told.before hart old
  pub word : told.word ≡ fetched old.memory told.before.pc
  pub after : IsHart told.after hart new
