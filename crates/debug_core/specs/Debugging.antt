-- A debugger: what it looks at, its points, and whose turn it is; and what its calls do.
use Rattle.std.specs.Prelude.{◌≡◌, ◌⊎◌, ℕ, zero, suc, Bool, true, false, IsSome, List, [], slice_set, Option, Some, None, is_none}
use Rattle.std.specs.List.{position_from}
use Rattle.std.specs.FinMap as map
use Rattle.flat_machine.specs.ByTurns.{turn_after}
use Rattle.flat_machine.specs.Process.{Process, is_live, may_step, flat_step}
use Rattle.debug_core.specs.Limits.{CanRead, CannotHave, CannotRead, CannotRecord, Limit}
use Rattle.debug_core.specs.Progresses.{ended_full}
use Rattle.debug_core.specs.Stops.{Moment, WantsAfter}
use Rattle.page_memory.specs.Memory.{Memory, unreserved}
use Rattle.debug_core.specs.Points.{all_there, bytes_from, IsRange}
use Rattle.debug_core.specs.declared.target.TargetFault.TheVariants as fault
use Rattle.debug_core.specs.declared.point.Point.{Point}
use Rattle.debug_core.specs.declared.point.DebugStep.{DebugStep}
use Rattle.debug_core.specs.declared.point.DebugStep.TheVariants.{Ran, Absent}
use Rattle.debug_core.specs.declared.refusal.DebugRefusal.{DebugRefusal}
use Rattle.debug_core.specs.declared.refusal.DebugRefusal.TheVariants.{Full, BadRange, NoPoint, NoHart, Ended, NotMapped, Purged, Device, NoMemory}

pub record DebuggerValue (T : Type 0) : Type 0 where
  pub target : T
  -- by their numbers, 0 to 31
  pub points : List (Option Point)
  pub turn : ℕ

-- the lowest number that no point has
abbrev pub lowest_free : List (Option Point) → Option ℕ
lowest_free points = position_from is_none 0 points

-- a point was added under the lowest free number
pub record AddsPoint (point : Point) (number : ℕ) (old new : List (Option Point)) : Type 0 where
  pub lowest : lowest_free old ≡ Some number
  pub added : new ≡ slice_set old number (Some point)

-- a process before the first step, with the turn of a hart: no memory was before
abbrev pub opening_moment : Bool → Process → ℕ → Moment
opening_moment alone process turn = record { process = process; turn = turn; was = unreserved map.empty; alone = alone }

-- the same where the harts take turns
abbrev pub first_moment : Process → ℕ → Moment
first_moment process turn = opening_moment false process turn

-- and where only this hart runs
abbrev pub lone_moment : Process → ℕ → Moment
lone_moment process hart = opening_moment true process hart

-- whose turn it is after so many steps of the only hart that ran: as after each of them
abbrev pub turn_left : ℕ → ℕ → ℕ → Process → ℕ
turn_left zero hart turn process = turn
turn_left (suc count) hart turn process = turn_after hart process

-- One step of a hart, where the target that it is taken on has these limits: it is the flat step, and the turn goes on; or none was
-- taken, though the hart may step, since a page that it needs can't be had. In both cases it could be recorded.
abbrev pub StepsOnce : (Limit → Type 0) → DebugStep → ℕ → Process → ℕ → Process → ℕ → Type 0
StepsOnce limits Ran hart old turn new next = (flat_step hart old ≡ Some new) × (next ≡ turn_after hart new) × (¬ limits (CannotRecord [] hart))
StepsOnce limits Absent hart old turn new next = (new ≡ old) × (next ≡ turn) × (may_step hart old ≡ true) × (¬ limits (CannotRecord [] hart)) × limits (CannotHave hart)

-- Why a step is refused. The hart is not live; or the process has ended, or is ended now since the step can't be recorded; or there is
-- not enough memory.
abbrev pub RefusesStep : (Limit → Type 0) → DebugRefusal → ℕ → Process → Process → Type 0
RefusesStep limits Full hart old new = ⊥
RefusesStep limits BadRange hart old new = ⊥
RefusesStep limits NoPoint hart old new = ⊥
RefusesStep limits NoHart hart old new = (is_live hart old ≡ false) × (new ≡ old)
RefusesStep limits Ended hart old new = (is_live hart old ≡ true) × ((IsSome old.ending × (new ≡ old)) ⊎ ((old.ending ≡ None) × (new ≡ ended_full old) × limits (CannotRecord [] hart)))
RefusesStep limits NotMapped hart old new = ⊥
RefusesStep limits Purged hart old new = ⊥
RefusesStep limits Device hart old new = ⊥
RefusesStep limits NoMemory hart old new = (may_step hart old ≡ true) × (new ≡ old) × (¬ limits (CannotRecord [] hart))

-- Why a look at so many bytes from an address on is refused. They are no range; or no page is mapped at one of them; or the target
-- can't read them; or it can read them, but there is not enough memory.
abbrev pub RefusesLook : (Limit → Type 0) → DebugRefusal → ℕ → ℕ → Memory → Type 0
RefusesLook limits Full address count memory = ⊥
RefusesLook limits BadRange address count memory = ¬ IsRange 4096 address count
RefusesLook limits NoPoint address count memory = ⊥
RefusesLook limits NoHart address count memory = ⊥
RefusesLook limits Ended address count memory = ⊥
RefusesLook limits NotMapped address count memory = IsRange 4096 address count × (all_there (bytes_from memory address count) ≡ false)
RefusesLook limits Purged address count memory = IsRange 4096 address count × ((all_there (bytes_from memory address count) ≡ true) × limits (CannotRead address count fault.Purged))
RefusesLook limits Device address count memory = IsRange 4096 address count × ((all_there (bytes_from memory address count) ≡ true) × (limits (CannotRead address count fault.Device) × (¬ limits (CannotRead address count fault.Purged))))
RefusesLook limits NoMemory address count memory = IsRange 4096 address count × ((all_there (bytes_from memory address count) ≡ true) × CanRead limits address count)

-- Why a run of one hart is refused. The hart is not live, and nothing has changed; or there is not enough memory for a step of it, and
-- the steps before it remain.
abbrev pub RefusesGo : {T : Type 0} → (T → Limit → Type 0) → DebugRefusal → T → List (Option Point) → ℕ → ℕ → Process → ℕ → Process → ℕ → Type 0
RefusesGo limits Full target points limit hart old turn new next = ⊥
RefusesGo limits BadRange target points limit hart old turn new next = ⊥
RefusesGo limits NoPoint target points limit hart old turn new next = ⊥
RefusesGo limits NoHart target points limit hart old turn new next = (is_live hart old ≡ false) × (new ≡ old) × (next ≡ turn)
RefusesGo limits Ended target points limit hart old turn new next = ⊥
RefusesGo limits NotMapped target points limit hart old turn new next = ⊥
RefusesGo limits Purged target points limit hart old turn new next = ⊥
RefusesGo limits Device target points limit hart old turn new next = ⊥
RefusesGo limits NoMemory target points limit hart old turn new next = (is_live hart old ≡ true)
    × (count : ℕ) × WantsAfter limits target points limit count (lone_moment old hart) hart new × (next ≡ turn_left count hart turn new)
