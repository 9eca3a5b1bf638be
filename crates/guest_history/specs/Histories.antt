-- A debugger that knows its steps: where it is, and where it goes back to.
use Rattle.std.specs.Prelude.{◌≡◌, ℕ, zero, suc, ◌+◌, ◌-◌, ◌^◌, ◌<◌, ◌≤◌, ⊤, nat_le, Bool, true, false, List, [], ◌∷◌, Option, Some, None, if◌then◌else◌}
use Rattle.flat_machine.specs.Process.{Process}
use Rattle.debug_core.specs.Debugging.{DebuggerValue}
use Rattle.debug_core.specs.Points.{ArePoints}
use Rattle.debug_core.specs.declared.point.Why.{Why}
use Rattle.debug_session.specs.declared.lines.DebugLine.{DebugLine}
use Rattle.debug_session.specs.declared.lines.DebugLine.TheVariants.{Break, Watch, Remove, Step, Go, Regs, Mem, Run, GoHart, End, Live, Quit}
use Rattle.flat_machine.specs.declared.schedule.Turn.{Turn}
use Rattle.run_paths.specs.declared.fault.RunFault.{RunFault}
use Rattle.run_paths.specs.declared.fault.RunFault.TheVariants.{NoMemory, OtherRun}
use Rattle.run_paths.specs.declared.path.Stretch.{Stretch}
use Rattle.run_paths.specs.declared.path.Whose.{Whose}
use Rattle.run_paths.specs.declared.path.Whose.TheVariants.{Hart}
use Rattle.run_paths.specs.declared.path.Path.{Path}
use Rattle.run_paths.specs.declared.running.Place.{Place}
use Rattle.run_paths.specs.declared.searching.Met.{Met}
use Rattle.run_paths.specs.declared.program.Program.{Program}
use Rattle.guest_history.specs.declared.checkpoints.Checkpoint.{Checkpoint}
use Rattle.guest_history.specs.declared.history.History.{History}
use Rattle.guest_history.specs.declared.history.Looked.{Looked}
use Rattle.guest_history.specs.declared.history.Looked.TheVariants as looked
use Rattle.guest_history.specs.declared.forward.Stepped.{Stepped}
use Rattle.guest_history.specs.declared.forward.Stepped.TheVariants.{Ran, Refused, PastRecord, OtherHart}
use Rattle.run_paths.specs.Extending.{IsCounted}
use Rattle.run_paths.specs.Meeting.{met_at}
use Rattle.run_paths.specs.Paths.{along, path_of, step_of, steps_of, whose_at, HasTurn}
use Rattle.guest_history.specs.Checkpoints.{beginning, AreKept}

-- the process of a debugger, and whose turn it has
abbrev pub place_of : DebuggerValue Process → Place
place_of debugger = record { turn = debugger.turn; process = debugger.target }

-- The debugger shows what the first steps of the path come to, as many as were taken; and it has the points that are kept.
pub record Stands (history : History) : Type 0 where
  pub counted : IsCounted history.path
  pub within : history.done ≤ history.path.total
  pub led : along history.path.stretches.items history.done (beginning history.program) ≡ Some (place_of history.debugger)
  pub points : history.debugger.points ≡ history.points
  pub ranged : ArePoints history.points
  pub kept : AreKept history.program history.path.stretches.items history.path.total history.checkpoints

-- it is before the first step of a program on a path
pub record Begins (program : Program) (path : List Stretch) (is_recorded : Bool) (history : History) : Type 0 where
  pub stands : Stands history
  pub program_is : history.program ≡ program
  pub path_is : history.path.stretches.items ≡ path
  pub recorded : history.is_recorded ≡ is_recorded
  pub none : history.done ≡ 0

-- why no debugger begins by turns: there is not enough memory, or they have too many steps
abbrev pub RefusesTurns : List Turn → RunFault → Type 0
RefusesTurns turns NoMemory = ⊤
RefusesTurns turns OtherRun = 2 ^ 64 ≤ steps_of (path_of turns)

-- nothing has changed but the checkpoints
abbrev pub Keeps : History → History → Type 0
Keeps old new = new ≡ record old { checkpoints = new.checkpoints }

-- It is after so many of the same steps, and has the same points.
pub record GoesBackTo (done : ℕ) (old new : History) : Type 0 where
  pub stands : Stands new
  pub done_is : new.done ≡ done
  pub program_is : new.program ≡ old.program
  pub path_is : new.path ≡ old.path
  pub points_are : new.points ≡ old.points
  pub recorded : new.is_recorded ≡ old.is_recorded

-- it goes so many steps back, where so many were taken; else nothing has changed
abbrev pub GoesBackBy : ℕ → History → Bool → History → Type 0
GoesBackBy count old true new = (count ≤ old.done) × GoesBackTo (old.done - count) old new
GoesBackBy count old false new = (old.done < count) × (new ≡ old)

-- why a run along the path stops after so many steps, by the points and by the reasons of a debugger
abbrev pub stops_at : History → ℕ → Option Why
stops_at history = met_at history.points history.path.stretches.items (beginning history.program)

-- It is at the last earlier place at which a run stops, for this reason; or at the beginning, where there is no such place.
abbrev pub StopsBefore : History → Option Why → History → Type 0
StopsBefore old None new = (new.done ≡ 0) × ((i : ℕ) → i < old.done → stops_at old i ≡ None)
StopsBefore old (Some why) new =
    (new.done < old.done) × ((stops_at old new.done ≡ Some why) × ((i : ℕ) → new.done < i → i < old.done → stops_at old i ≡ None))

-- The same, no more than so many steps back. Where a run stops nowhere among these, it is before them, at a limit or at the beginning.
abbrev pub StopsWithin : ℕ → History → Looked → History → Type 0
StopsWithin count old (looked.Met why) new = (old.done ≤ new.done + count) × StopsBefore old (Some why) new
StopsWithin count old looked.Limit new =
    (0 < new.done) × ((new.done + count ≡ old.done) × ((i : ℕ) → new.done ≤ i → i < old.done → stops_at old i ≡ None))
StopsWithin count old looked.Beginning new = (old.done ≤ count) × StopsBefore old None new

-- what was met, unless that was before so many steps
abbrev pub not_below : ℕ → Option Met → Option Met
not_below low None = None
not_below low (Some met) = if nat_le low met.steps then Some met else None

-- what a look comes to that has met nothing after so many steps
abbrev pub ends_look : ℕ → Looked
ends_look zero = looked.Beginning
ends_look (suc low) = looked.Limit

-- a process after no more than so many of the known steps
pub record IsNear (history : History) (step : ℕ) (near : Checkpoint) : Type 0 where
  pub led : along history.path.stretches.items near.done (beginning history.program) ≡ Some near.place
  pub live : HasTurn near.place
  pub before : near.done ≤ step

-- The debugger has gone on by so many steps from where the first steps of the path lead.
pub record Moves (history : History) (whose : Whose) (count : ℕ) : Type 0 where
  pub at : Place
  pub counted : IsCounted history.path
  pub within : history.done ≤ history.path.total
  pub led : along history.path.stretches.items history.done (beginning history.program) ≡ Some at
  pub moved : along (record { whose = whose; count = count } ∷ []) count at ≡ Some (place_of history.debugger)
  pub points : history.debugger.points ≡ history.points
  pub ranged : ArePoints history.points
  pub kept : AreKept history.program history.path.stretches.items history.path.total history.checkpoints

-- the next steps of a path are those of a stretch
pub record IsNext (path : Path) (done : ℕ) (stretch : Stretch) : Type 0 where
  pub within : done + stretch.count ≤ path.total
  pub next : (i : ℕ) → i < stretch.count → whose_at path.stretches.items (done + i) ≡ Some stretch.whose

-- the same program, and where the harts take their turns by a record, the same turns
pub record IsSameRun (old new : History) : Type 0 where
  pub program_is : new.program ≡ old.program
  pub recorded : new.is_recorded ≡ old.is_recorded
  pub path_is : old.is_recorded ≡ true → new.path ≡ old.path

-- whether a record has this hart's step next, where there is a record
abbrev pub IsAllowed : ℕ → History → Type 0
IsAllowed hart history =
    history.is_recorded ≡ true → (history.done < history.path.total) × (whose_at history.path.stretches.items history.done ≡ Some (Hart hart))

-- What has come of a step of a hart: it was taken, or the debugger refuses it, or the record has no more steps, or another hart's there.
abbrev pub HasStepped : ℕ → History → Stepped → History → Type 0
HasStepped hart old Ran new =
    IsAllowed hart old × ((new.done ≡ old.done + 1) × (step_of hart (place_of old.debugger) ≡ Some (place_of new.debugger)))
HasStepped hart old (Refused why) new = IsAllowed hart old × ((new.done ≡ old.done) × (place_of new.debugger ≡ place_of old.debugger))
HasStepped hart old PastRecord new = (old.is_recorded ≡ true) × ((old.path.total ≤ old.done) × (new ≡ old))
HasStepped hart old OtherHart new =
    (old.is_recorded ≡ true) × ((old.done < old.path.total) × ((¬ (whose_at old.path.stretches.items old.done ≡ Some (Hart hart))) × (new ≡ old)))

-- a line that only shows something, or ends the conversation
abbrev pub Looks : DebugLine → Type 0
Looks (Regs hart) = Unit {0}
Looks (Mem address length) = Unit {0}
Looks End = Unit {0}
Looks (Live hart) = Unit {0}
Looks Quit = Unit {0}
Looks (Break address) = ⊥
Looks (Watch address length) = ⊥
Looks (Remove number) = ⊥
Looks (Step hart) = ⊥
Looks (Go limit) = ⊥
Looks (Run limit) = ⊥
Looks (GoHart hart limit) = ⊥
