-- When a step is refused.
use Rattle.std.specs.Prelude.{◌≡◌, ℕ, Some, None, IsSome, ◌<◌, List, length, take, slice_index, true, false}
use Rattle.rv_exec.specs.Registers.{Registers}
use Rattle.env_calls.specs.Serving.{TakesMemory}
use Rattle.env_calls.specs.Step.{effect}
use Rattle.flat_machine.specs.declared.stepping.StepRefusal.{StepRefusal}
use Rattle.flat_machine.specs.declared.stepping.StepRefusal.TheVariants.{Ended, NoHart, NoMemory}
use Rattle.flat_machine.specs.Process.{Process, hart_registers, is_live, may_step, flat_run}
use Rattle.flat_machine.specs.ByTurns.{by_turns}

-- the hart may step, and its step makes the output longer or maps pages
pub record WantsMemory (hart : ℕ) (process : Process) : Type 0 where
  pub may : may_step hart process ≡ true
  pub registers : Registers
  pub are : hart_registers hart process ≡ Some registers
  pub takes : TakesMemory process.environment (effect hart registers process.environment process.memory)

-- the process has ended; else the hart is not live; else memory for its step was refused
abbrev pub RefusesStep : StepRefusal → ℕ → Process → Type 0
RefusesStep Ended hart process = IsSome process.ending
RefusesStep NoHart hart process = (process.ending ≡ None) × (is_live hart process ≡ false)
RefusesStep NoMemory hart process = WantsMemory hart process

-- a run stops at a step that is refused, after so many steps that were done
pub record StopsAt (harts : List ℕ) (before : Process) (refusal : StepRefusal) (done : ℕ) (after : Process) : Type 0 where
  pub there : done < length harts
  pub ran : flat_run (take done harts) before ≡ Some after
  pub refused : RefusesStep refusal (slice_index harts done) after

-- a run by turns, from a hart's turn on, wants memory for its next step after so many that were done: it is the turn of this hart then
pub record WantsAt (hart : ℕ) (before : Process) (done turn : ℕ) (after : Process) : Type 0 where
  pub ran : by_turns done hart before ≡ Some (turn, after)
  pub wants : WantsMemory turn after
