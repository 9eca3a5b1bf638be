-- Whose steps a run is made of, in order, and where they lead.
use Rattle.std.specs.Prelude.{◌≡◌, ℕ, zero, suc, ◌+◌, ◌-◌, nat_lt, true, List, [], ◌∷◌, ◌++◌, min, map, Option, Some, None, option_map, option_and_then, if◌then◌else◌}
use Rattle.flat_machine.specs.ByTurns.{turn_after, first_turn}
use Rattle.flat_machine.specs.Process.{Process, is_live, flat_step}
use Rattle.flat_machine.specs.declared.schedule.Turn.{Turn}
use Rattle.run_paths.specs.declared.path.Whose.{Whose}
use Rattle.run_paths.specs.declared.path.Whose.TheVariants.{ByTurns, Hart}
use Rattle.run_paths.specs.declared.path.Stretch.{Stretch}
use Rattle.run_paths.specs.declared.running.Place.{Place}

-- a process before its first step
abbrev pub first_place : Process → Place
first_place process = record { turn = first_turn process; process = process }

-- the hart whose turn it is is live
abbrev pub HasTurn : Place → Type 0
HasTurn at = is_live at.turn at.process ≡ true

-- the hart of a step, where it is a hart's turn
abbrev pub hart_of : Whose → ℕ → ℕ
hart_of ByTurns turn = turn
hart_of (Hart hart) turn = hart

-- after a step of a hart
abbrev pub step_of : ℕ → Place → Option Place
step_of hart at = option_map (λ next. record { turn = turn_after hart next; process = next }) (flat_step hart at.process)

-- after a step, where it is known whose it is
abbrev pub step_by : Option Whose → Place → Option Place
step_by None at = None
step_by (Some whose) at = step_of (hart_of whose at.turn) at

-- whose step comes after so many of a path
unfoldable pub whose_at : List Stretch → ℕ → Option Whose
whose_at [] before = None
whose_at (stretch ∷ path) before = if nat_lt before stretch.count then Some stretch.whose else whose_at path (before - stretch.count)

-- where the first so many steps of a path lead
unfoldable pub along : List Stretch → ℕ → Place → Option Place
along path zero first = Some first
along path (suc count) first = option_and_then (step_by (whose_at path count)) (along path count first)

-- how many steps a path has
unfoldable pub steps_of : List Stretch → ℕ
steps_of [] = 0
steps_of (stretch ∷ path) = stretch.count + steps_of path

-- whose turn it is after so many steps of one hart
abbrev pub turn_behind : ℕ → ℕ → ℕ → Process → ℕ
turn_behind zero hart turn process = turn
turn_behind (suc count) hart turn process = turn_after hart process

-- the path of turns
abbrev pub stretch_of : Turn → Stretch
stretch_of turn = record { whose = Hart turn.hart; count = turn.count }

abbrev pub path_of : List Turn → List Stretch
path_of turns = map stretch_of turns

-- where the steps of a stretch lead
abbrev pub Leads : Stretch → Place → Place → Type 0
Leads stretch old new = along (stretch ∷ []) stretch.count old ≡ Some new

-- so many steps of a path, after so many others
abbrev pub taken_of : Stretch → ℕ → List Stretch
taken_of stretch zero = []
taken_of stretch (suc more) = record { whose = stretch.whose; count = suc more } ∷ []

unfoldable pub part_of : List Stretch → ℕ → ℕ → List Stretch
part_of [] before count = []
part_of (stretch ∷ path) before count =
    taken_of stretch (min count (stretch.count - before)) ++ part_of path (before - stretch.count) (count - (stretch.count - before))
