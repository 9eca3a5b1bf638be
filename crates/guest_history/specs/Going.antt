-- How a debugger that knows its steps goes on.
use Rattle.std.specs.Prelude.{◌≡◌, ◌⊎◌, ℕ, zero, suc, ◌+◌, ◌-◌, ◌^◌, ◌<◌, ◌≤◌, ◌==◌, min, ⊤, Bool, true, false, List, Option, Some, None, is_some, option_map, option_and_then, if◌then◌else◌}
use Rattle.std.specs.FinMap as map
use Rattle.std.specs.List.{position_from}
use Rattle.std.specs.Option.{option_or}
use Rattle.page_memory.specs.Memory.{Memory, unreserved}
use Rattle.flat_machine.specs.Process.{Process}
use Rattle.debug_core.specs.Debugging.{first_moment, lone_moment, turn_left}
use Rattle.debug_core.specs.Limits.{Limit}
use Rattle.debug_core.specs.Points.{is_hit}
use Rattle.debug_core.specs.Stops.{last_hart, reason, Stops}
use Rattle.debug_core.specs.declared.point.Point.{Point}
use Rattle.debug_core.specs.declared.point.Why.{Why}
use Rattle.debug_core.specs.declared.point.Why.TheVariants.{Ended, Watch, Gone, Break, Absent}
use Rattle.debug_core.specs.declared.point.Why.TheVariants as why
use Rattle.run_paths.specs.declared.path.Whose.{Whose}
use Rattle.run_paths.specs.declared.path.Whose.TheVariants.{ByTurns, Hart}
use Rattle.run_paths.specs.declared.path.Stretch.{Stretch}
use Rattle.run_paths.specs.declared.running.Place.{Place}
use Rattle.run_paths.specs.Paths.{along, hart_of, whose_at}
use Rattle.guest_history.specs.declared.forward.Stop.{Stop}
use Rattle.guest_history.specs.declared.history.History.{History}
use Rattle.guest_history.specs.Checkpoints.{beginning}

-- a flat process shows itself, and lacks nothing
abbrev pub shows : Process → Process
shows process = process

abbrev pub lacks : Process → Limit → Type 0
lacks process limit = ⊥

-- so many steps more, as far as steps are counted
abbrev pub within_count : ℕ → History → ℕ
within_count limit history = min limit (2 ^ 64 - 1 - history.done)

-- the hart that a record has next, else the one whose turn it is
abbrev pub next_hart : Option Whose → ℕ → ℕ
next_hart None turn = turn
next_hart (Some ByTurns) turn = turn
next_hart (Some (Hart hart)) turn = hart

-- whose turn it is: by the record, where there is one that has more steps
abbrev pub turn_by : Bool → History → ℕ
turn_by false history = history.debugger.turn
turn_by true history = next_hart (whose_at history.path.stretches.items history.done) history.debugger.turn

abbrev pub turn_of : History → ℕ
turn_of history = turn_by history.is_recorded history

-- It went on by turns to the first reason to stop.
pub record GoesByTurns (limit : ℕ) (old : History) (stop : Stop) (new : History) : Type 0 where
  pub why : Why
  pub why_is : stop.why ≡ Some why
  pub stops : Stops shows lacks old.debugger.target old.debugger.points (within_count limit old) why stop.steps (first_moment old.debugger.target old.debugger.turn) new.debugger.turn new.debugger.target
  pub last : last_hart stop.steps (first_moment old.debugger.target old.debugger.turn) ≡ Some stop.last
  pub done_is : new.done ≡ old.done + stop.steps
  pub points_are : new.debugger.points ≡ old.debugger.points

-- It went on by steps of this hart to the first reason to stop.
pub record GoesAlone (hart limit : ℕ) (old : History) (stop : Stop) (new : History) : Type 0 where
  pub why : Why
  pub why_is : stop.why ≡ Some why
  pub stops : Stops shows lacks old.debugger.target old.debugger.points (within_count limit old) why stop.steps (lone_moment old.debugger.target hart) hart new.debugger.target
  pub turn_is : new.debugger.turn ≡ turn_left stop.steps hart old.debugger.turn new.debugger.target
  pub last_is : stop.last ≡ hart
  pub done_is : new.done ≡ old.done + stop.steps
  pub points_are : new.debugger.points ≡ old.debugger.points

-- ---- by a record

-- the memory before the last of so many steps of a path from a place on: before the first there is none
abbrev pub memory_of : Option Place → Memory
memory_of None = unreserved map.empty
memory_of (Some at) = at.process.memory

abbrev pub memory_before : List Stretch → Place → ℕ → ℕ → Memory
memory_before path first from zero = unreserved map.empty
memory_before path first from (suc count) = memory_of (along path (from + count) first)

-- the least number of a watch of which a byte has changed
abbrev pub watch_of : List (Option Point) → Memory → Process → Option ℕ
watch_of points was now = position_from (is_hit was now.memory) 0 points

-- why a run by a record stops before its next step, after so many: as any debugger where one hart runs; after the last step of the record
-- nothing is next
abbrev pub why_next : List (Option Point) → ℕ → ℕ → Memory → Process → Option Whose → Option Why
why_next points limit count was process None =
    if is_some process.ending then Some Ended
    else option_or (option_map Watch (watch_of points was process)) (if count == limit then Some why.Limit else None)
why_next points limit count was process (Some whose) =
    reason points limit count (record { process = process; turn = hart_of whose 0; was = was; alone = true })

-- the same after so many steps of a path from a place on
abbrev pub stops_by : List (Option Point) → List Stretch → Place → ℕ → ℕ → ℕ → Option Why
stops_by points path first from limit count =
    option_and_then (λ at. why_next points limit count (memory_before path first from count) at.process (whose_at path (from + count)))
    (along path (from + count) first)

abbrev pub stops_after : ℕ → History → ℕ → Option Why
stops_after limit old count = stops_by old.debugger.points old.path.stretches.items (beginning old.program) old.done limit count

-- the hart of the last of so many steps of the record; of none, the one that has the next
abbrev pub last_by : ℕ → History → ℕ
last_by zero old = turn_of old
last_by (suc count) old = next_hart (whose_at old.path.stretches.items (old.done + count)) 0

-- It went on by steps of the record to the first reason to stop; or to the end of the record, where there is none.
pub record GoesByRecord (limit : ℕ) (old : History) (stop : Stop) (new : History) : Type 0 where
  pub done_is : new.done ≡ old.done + stop.steps
  pub points_are : new.debugger.points ≡ old.debugger.points
  pub before : (i : ℕ) → i < stop.steps → stops_after limit old i ≡ None
  pub why_is : stops_after limit old stop.steps ≡ stop.why
  pub ends : stop.why ≡ None → new.done ≡ old.path.total
  pub last_is : stop.last ≡ last_by stop.steps old

-- it went on, up to so many steps, to the first reason to stop
abbrev pub HasGone : ℕ → History → Stop → History → Type 0
HasGone limit old stop new =
    ((old.is_recorded ≡ true) × GoesByRecord limit old stop new) ⊎ ((old.is_recorded ≡ false) × GoesByTurns limit old stop new)

-- why a run stops that has come to the end of the record, where no watch is hit, with so many steps left
abbrev pub why_last : Process → ℕ → Option Why
why_last process left = if is_some process.ending then Some Ended else (if left == 0 then Some why.Limit else None)

-- so many steps of a turn of a record were taken, and why no more
pub record GoesTurn (stretch : Stretch) (limit : ℕ) (old : History) (why : Why) (steps : ℕ) (new : History) : Type 0 where
  pub hart : ℕ
  pub whose_is : stretch.whose ≡ Hart hart
  pub most : ℕ
  pub within : most ≤ limit
  pub few : most ≤ stretch.count
  pub all : most < stretch.count → most ≡ limit
  pub stops : Stops shows lacks old.debugger.target old.debugger.points most why steps (lone_moment old.debugger.target hart) hart new.debugger.target

-- a turn may end for this reason, and the record goes on
abbrev pub EndsTurn : Why → Type 0
EndsTurn Ended = ⊥
EndsTurn (Watch number) = ⊥
EndsTurn Gone = ⊤
EndsTurn (Break number) = ⊤
EndsTurn why.Limit = ⊤
EndsTurn Absent = ⊥
