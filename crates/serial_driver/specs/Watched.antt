-- A run that goes on one event at a time, for who looks at the machine in between.
use Rattle.std.specs.Prelude.{◌≡◌, ℕ, ◌+◌, ◌*◌, List, Option, None}
use Rattle.clock_policy.specs.declared.key.Key.{Key}
use Rattle.machine_core.specs.Faithful.{IsFaithful}
use Rattle.machine_core.specs.Machine.{CoreValue}
use Rattle.serial_driver.specs.Limit.{PlaysWith}
use Rattle.serial_driver.specs.Owing.{no_duty, owed_save}
use Rattle.serial_driver.specs.Patience.{tries_per_frame}
use Rattle.serial_driver.specs.TurnsDuty.{duty_of, stage_owes}
use Rattle.serial_driver.specs.declared.watched.SerialRun.{SerialRun}

-- how many events may happen still
abbrev pub left_of : SerialRun → ℕ
left_of run = run.left

-- the page whose save is out
abbrev pub unsaved_of : SerialRun → Option Key
unsaved_of run = owed_save (stage_owes run.turns.stage)

module _ {S : Type 0} (held : S → List ℕ) (honest : Type 0) (failures : S → ℕ) where
  -- a run from one machine to another, in slices of so many instructions, of which there are to be so many events at most
  pub record HasPlayed (slice limit : ℕ) (first now : CoreValue S) (run : SerialRun) : Type 0 where
    pub faithful : IsFaithful held honest first
    pub count : ℕ
    pub sum : count + run.left ≡ limit
    pub plays : PlaysWith held honest failures (tries_per_frame * first.pager.pager.size) (λ _. 0) (no_duty slice) None count first now run.patience (duty_of run.turns)
