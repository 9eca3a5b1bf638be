-- What a machine of one process comes to, up to so many steps of its program.
use Rattle.std.specs.Prelude.{◌≡◌, ⊤, ℕ, false, max, List, [], ◌∷◌, Some, replicate, slice_get, unwrap_or}
use Rattle.elf_image.specs.Start.{Start}
use Rattle.flat_machine.specs.declared.end.End.{End}
use Rattle.flat_machine.specs.declared.end.End.TheVariants.{Killed}
use Rattle.flat_machine.specs.declared.end.KillCause.TheVariants.{Limit}
use Rattle.machine_core.specs.Machine.{CoreValue}
use Rattle.machine_core.specs.Opening.{MachineBegins}
use Rattle.machine_sides.specs.Reporting.{come_to, told}
use Rattle.machine_sides.specs.declared.report.ProcessReport.{ProcessReport}
use Rattle.serial_driver.specs.StepsLimit.{PlaysToSteps, limited_at, steps_of}
use Rattle.space_core.specs.StandsFor.{SpaceValue}
use Rattle.swap_slots.specs.Slot.{zero_content}

-- A machine of so many frames and of 4096 slots in memory begins with one process, and plays in slices of 1000 instructions up to so many
-- steps of it. The ending is the process's, be it its own or by the machine and for that cause; or else it is that of the limit.
pub record RunsOnFrames (frames limit : ℕ) (start : Start) (end : End) (steps : ℕ) : Type 0 where
  pub begun : CoreValue (List ℕ)
  pub begins : MachineBegins frames (replicate 4096 zero_content) (start ∷ []) begun
  pub over : CoreValue (List ℕ)
  pub plays : PlaysToSteps (λ bytes. bytes) ⊤ (λ _. 0) 1000 0 limit begun over
  pub process : SpaceValue (List ℕ)
  pub found : slice_get over.processes 0 ≡ Some process
  pub end_is : end ≡ unwrap_or process.running.ending (Killed Limit)
  pub steps_are : steps ≡ steps_of (Some process)

-- A machine of so many frames, and of so many slots in memory, begins with one process, and plays in slices of so many instructions, of one where
-- none is said, up to so many steps of it: the report is what the process has come to. The machine does not end it for the limit.
pub record PlaysProcess (frames slots slice limit : ℕ) (start : Start) (report : ProcessReport) : Type 0 where
  pub begun : CoreValue (List ℕ)
  pub begins : MachineBegins frames (replicate slots zero_content) (start ∷ []) begun
  pub over : CoreValue (List ℕ)
  pub plays : PlaysToSteps (λ bytes. bytes) ⊤ (λ _. 0) (max slice 1) 0 limit begun over
  pub unlimited : limited_at 0 begun ≡ false → limited_at 0 over ≡ false
  pub process : SpaceValue (List ℕ)
  pub found : slice_get over.processes 0 ≡ Some process
  pub same : told report ≡ come_to process
