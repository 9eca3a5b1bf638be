-- What the driver does next, and how many events that is at most.
use Rattle.std.specs.Prelude.{◌≡◌, ℕ, ◌<◌, ◌≤◌, max, ⊤, Bool, true, false, Option}
use Rattle.serial_driver.specs.declared.turns.Next.{Next}
use Rattle.serial_driver.specs.declared.turns.Next.TheVariants.{Steps, Event}
use Rattle.machine_core.specs.declared.event.Event as machine
use Rattle.machine_core.specs.declared.event.Event.TheVariants.{Step}
use Rattle.machine_core.specs.Machine.{CoreValue}
use Rattle.serial_driver.specs.Closing.{is_limit_kill}
use Rattle.serial_driver.specs.Owing.{Duty, Pays, is_only_owed, next_owed}
use Rattle.serial_driver.specs.Turning.{Turn, IsInTurn}

abbrev pub most_events : Next → ℕ
most_events (Steps process hart most) = most
most_events (Event event) = 1

-- it is steps of a hart, one at least, no more than are allowed and than are left of its slice
abbrev pub AreSteps : ℕ → ℕ → ℕ → ℕ → Next → Type 0
AreSteps process hart allowed left (Steps process' hart' most) = (process' ≡ process) × ((hart' ≡ hart) × ((0 < most) × ((most ≤ allowed) × (most ≤ max left 1))))
AreSteps process hart allowed left (Event event) = ⊥

-- whether an event is an instruction of a hart; what comes next is such instructions, or one event of another kind
abbrev pub is_step : machine.Event → Bool
is_step (Step process hart) = true
is_step _ = false

abbrev pub IsNoStep : Next → Type 0
IsNoStep (Steps process hart most) = ⊤
IsNoStep (Event event) = is_step event ≡ false

module _ {S : Type 0} (honest : Type 0) (core : CoreValue S) where
  -- it comes in turn, steps no more than are left of the hart's slice; it ends no process for the limit; and it is the event that is owed,
  -- if one is
  abbrev pub MayCome : Option ℕ → Duty → Next → Type 0
  MayCome spent duty (Steps process hart most) =
      Pays (next_owed duty.owed spent) (Step process hart) × IsInTurn honest core duty.turn (Step process hart) × (most ≤ max duty.turn.left 1)
  MayCome spent duty (Event event) = (is_limit_kill event ≡ false) × Pays (next_owed duty.owed spent) event × IsInTurn honest core duty.turn event

  -- it is an event at least, and no more than are allowed
  abbrev pub IsNext : ℕ → Option ℕ → Duty → Next → Type 0
  IsNext allowed spent duty next = (0 < most_events next) × ((most_events next ≤ allowed) × MayCome spent duty next)

  -- an event that may come where none is owed, in turn
  abbrev pub IsOrdinary : Turn → machine.Event → Type 0
  IsOrdinary turn event = (is_limit_kill event ≡ false) × (is_only_owed event ≡ false) × IsInTurn honest core turn event
