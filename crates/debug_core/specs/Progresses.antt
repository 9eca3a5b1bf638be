-- What has come of a step of a target.
use Rattle.std.specs.Prelude.{◌≡◌, ℕ, Some}
use Rattle.flat_machine.specs.Process.{Process, flat_step}
use Rattle.flat_machine.specs.declared.end.End.TheVariants.{Killed}
use Rattle.flat_machine.specs.declared.end.KillCause.TheVariants.{ScheduleFull}
use Rattle.debug_core.specs.declared.target.TargetStep.{TargetStep}
use Rattle.debug_core.specs.declared.target.TargetStep.TheVariants.{Ran, Absent, Full}

-- the process after it was ended because no more steps can be recorded
abbrev pub ended_full : Process → Process
ended_full process = record process { ending = Some (Killed ScheduleFull) }

-- a step that ran is the flat step; otherwise none was taken
abbrev pub Progresses : TargetStep → ℕ → Process → Process → Type 0
Progresses Ran hart old new = flat_step hart old ≡ Some new
Progresses Absent hart old new = new ≡ old
Progresses Full hart old new = new ≡ ended_full old
