-- Where a debugger stops: after the least number of steps by turns at which there is a reason.
use Rattle.std.specs.Prelude.{◌≡◌, ◌↔◌, ℕ, Bool, true, false, zero, suc, ◌<◌, ◌≤◌, ◌==◌, List, [], ◌∷◌, ◌++◌, ◌⊎◌, Option, Some, None, IfSome, is_some, option_map, option_and_then, if◌then◌else◌}
use Rattle.std.specs.Option.{option_or}
use Rattle.std.specs.List.{position_from}
use Rattle.page_memory.specs.Memory.{Memory}
use Rattle.rv_exec.specs.Registers.{Registers}
use Rattle.flat_machine.specs.ByTurns.{turn_after}
use Rattle.flat_machine.specs.Process.{Process, hart_registers, is_live, flat_step}
use Rattle.debug_core.specs.Limits.{CannotHave, CannotRecord, Limit}
use Rattle.debug_core.specs.Points.{is_hit, is_break_at}
use Rattle.debug_core.specs.Progresses.{ended_full}
use Rattle.debug_core.specs.Seen.{IsUnread}
use Rattle.debug_core.specs.declared.point.Point.{Point}
use Rattle.debug_core.specs.declared.point.Why.{Why}
use Rattle.debug_core.specs.declared.point.Why.TheVariants.{Ended, Watch, Gone, Break, Absent}
use Rattle.debug_core.specs.declared.point.Why.TheVariants as stop

-- a process, whose turn it is, the memory before the last step, which is none before the first, and whether only one hart runs
pub record Moment : Type 0 where
  pub process : Process
  pub turn : ℕ
  pub was : Memory
  pub alone : Bool

-- whose turn it is after a step of a hart: its own again, where only it runs
abbrev pub turn_next : Bool → ℕ → Process → ℕ
turn_next false turn process = turn_after turn process
turn_next true turn process = turn

-- the moment after the step of the hart whose turn it is
abbrev pub next_moment : Moment → Option Moment
next_moment now =
    option_map (λ next. record { process = next; turn = turn_next now.alone now.turn next; was = now.process.memory; alone = now.alone }) (flat_step now.turn now.process)

-- the moment after so many steps
unfoldable pub moment_after : ℕ → Moment → Option Moment
moment_after zero now = Some now
moment_after (suc count) now = option_and_then next_moment (moment_after count now)

-- the hart of the last of so many steps; before the first the hart whose turn it is
unfoldable pub last_hart : ℕ → Moment → Option ℕ
last_hart zero first = Some first.turn
last_hart (suc count) first = option_map (λ now. now.turn) (moment_after count first)

-- the least number of a watch of which the last step changed a byte
abbrev pub watch_hit : List (Option Point) → Moment → Option ℕ
watch_hit points now = position_from (is_hit now.was now.process.memory) 0 points

-- the least number of a break that a hart with these registers is at
abbrev pub break_at : List (Option Point) → Option Registers → Option ℕ
break_at points None = None
break_at points (Some registers) = position_from (is_break_at registers.pc) 0 points

-- why a debugger stops before the next step of a hart, if it does: a break is met, or no more steps are allowed
abbrev pub reason_before : List (Option Point) → ℕ → ℕ → Moment → Option Why
reason_before points limit count now =
    option_or (option_map Break (break_at points (hart_registers now.turn now.process)))
    (if count == limit then Some stop.Limit else None)

-- why a debugger stops at a moment after so many steps, if it does: the process has ended; or a watch is hit; or the only hart that runs
-- has ended; or there is a reason before its next step; the first of these that holds
abbrev pub reason : List (Option Point) → ℕ → ℕ → Moment → Option Why
reason points limit count now =
    if is_some now.process.ending then Some Ended
    else option_or (option_map Watch (watch_hit points now))
    (if is_live now.turn now.process then reason_before points limit count now else Some Gone)

-- the harts of so many steps from a first moment on, in order
abbrev pub turn_in : Option Moment → List ℕ
turn_in None = []
turn_in (Some now) = now.turn ∷ []

unfoldable pub harts_before : ℕ → Moment → List ℕ
harts_before zero first = []
harts_before (suc count) first = harts_before count first ++ turn_in (moment_after count first)

-- no step can be recorded at a moment after so many steps from a first one on, where the target then had these limits
abbrev pub IsFullAt : (Limit → Type 0) → ℕ → Moment → Moment → Type 0
IsFullAt limits count first now = limits (CannotRecord (harts_before count first) now.turn)

-- after none of the steps before this many there is a reason to stop, and each next one can be recorded
abbrev pub GoesOnBefore : (Limit → Type 0) → List (Option Point) → ℕ → ℕ → Moment → Type 0
GoesOnBefore limits points limit bound first =
    (count : ℕ) → count < bound → IfSome (moment_after count first) (λ now. (reason points limit count now ≡ None) × (¬ IsFullAt limits count first now))

-- so many steps were done, and after none of them there was a reason to stop
pub record Passes (limits : Limit → Type 0) (points : List (Option Point)) (limit count : ℕ) (first now : Moment) : Type 0 where
  pub reached : moment_after count first ≡ Some now
  pub within : count ≤ limit
  pub before : GoesOnBefore limits points limit count first

-- the same, and then it is the turn of this hart of this process
pub record PassesTo (limits : Limit → Type 0) (points : List (Option Point)) (limit count : ℕ) (first : Moment) (turn : ℕ) (process : Process) : Type 0 where
  pub was : Memory
  pub passes : Passes limits points limit count first (record { process = process; turn = turn; was = was; alone = first.alone })

-- what can be recorded after so many steps from a moment on, by what could be recorded before the first
abbrev pub RoomAfter : (Limit → Type 0) → (Limit → Type 0) → ℕ → Moment → Type 0
RoomAfter first now count moment = (harts : List ℕ) (hart : ℕ) → now (CannotRecord harts hart) ↔ first (CannotRecord (harts_before count moment ++ harts) hart)

module _ {T : Type 0} (shown : T → Process) (limits : T → Limit → Type 0) where
  -- a target that shows this process can't have a page that the next step of a hart needs
  abbrev pub IsLacking : ℕ → Process → Type 0
  IsLacking hart process = (at : T) × ((shown at ≡ process) × limits at (CannotHave hart))

  -- Why a debugger stops after so many steps, and with which process; `full` means that no more can be recorded. Where that is so, or
  -- where a page that the next step needs can't be had, there was no reason before; where the bytes of a watch can't be read, the
  -- process has not ended, and no watch with a lower number was hit.
  abbrev pub StopsFor : Type 0 → Why → List (Option Point) → ℕ → ℕ → Moment → Process → Type 0
  StopsFor full Ended points limit count now process =
      ((process ≡ now.process) × (reason points limit count now ≡ Some Ended)) ⊎ ((process ≡ ended_full now.process) × ((reason points limit count now ≡ None) × full))
  StopsFor full (Watch number) points limit count now process = (process ≡ now.process) × (reason points limit count now ≡ Some (Watch number))
  StopsFor full Gone points limit count now process = (process ≡ now.process) × (reason points limit count now ≡ Some Gone)
  StopsFor full (Break number) points limit count now process = (process ≡ now.process) × (reason points limit count now ≡ Some (Break number))
  StopsFor full stop.Limit points limit count now process = (process ≡ now.process) × (reason points limit count now ≡ Some stop.Limit)
  StopsFor full Absent points limit count now process = (process ≡ now.process) ×
      (((reason points limit count now ≡ None) × ((¬ full) × IsLacking now.turn now.process))
      ⊎ ((now.process.ending ≡ None) × IsUnread shown limits points now.was now.process))

  -- the answer of a run that may stop: after the least number of steps with a reason
  pub record Stops (target : T) (points : List (Option Point)) (limit : ℕ) (why : Why) (count : ℕ) (first : Moment) (turn : ℕ) (process : Process) : Type 0 where
    pub now : Moment
    pub passes : Passes (limits target) points limit count first now
    pub stops : StopsFor (IsFullAt (limits target) count first now) why points limit count now process
    pub turn_is : turn ≡ now.turn

  -- What one step of such a run does: it stops for a reason, or nothing speaks for stopping and the step is taken.
  abbrev pub Advances : Type 0 → Option Why → List (Option Point) → ℕ → ℕ → Moment → ℕ → Process → Type 0
  Advances full None points limit count now turn process =
      (reason points limit count now ≡ None) × ((next_moment now ≡ Some (record { process = process; turn = turn; was = now.process.memory; alone = now.alone })) × (¬ full))
  Advances full (Some why) points limit count now turn process = StopsFor full why points limit count now process × (turn ≡ now.turn)

-- so many steps were done; none of them and nothing after the last was a reason to stop; and the next one could be recorded, but there is
-- not enough memory for it
pub record WantsAfter {T : Type 0} (limits : T → Limit → Type 0) (target : T) (points : List (Option Point)) (limit count : ℕ) (first : Moment) (turn : ℕ) (process : Process) : Type 0 where
  pub now : Moment
  pub passes : Passes (limits target) points limit count first now
  pub none : reason points limit count now ≡ None
  pub recordable : ¬ IsFullAt (limits target) count first now
  pub process_is : process ≡ now.process
  pub turn_is : turn ≡ now.turn

abbrev pub Wants : {T : Type 0} → (T → Limit → Type 0) → T → List (Option Point) → ℕ → Moment → ℕ → Process → Type 0
Wants limits target points limit first turn process = (count : ℕ) × WantsAfter limits target points limit count first turn process
