-- Where points are met on a path.
use Rattle.std.specs.Prelude.{◌≡◌, ℕ, zero, suc, ◌+◌, ◌<◌, Bool, false, List, Option, Some, None, option_map, option_and_then, if◌then◌else◌}
use Rattle.page_memory.specs.Memory.{Memory}
use Rattle.rv_exec.specs.Registers.{Registers}
use Rattle.flat_machine.specs.Process.{Process}
use Rattle.debug_core.specs.Stops.{break_at, reason}
use Rattle.debug_core.specs.declared.point.Point.{Point}
use Rattle.debug_core.specs.declared.point.Why.{Why}
use Rattle.debug_core.specs.declared.point.Why.TheVariants.{Watch, Break}
use Rattle.run_paths.specs.declared.path.Stretch.{Stretch}
use Rattle.run_paths.specs.declared.path.Whose.{Whose}
use Rattle.run_paths.specs.declared.running.Place.{Place}
use Rattle.run_paths.specs.declared.searching.Met.{Met}
use Rattle.run_paths.specs.Paths.{along, hart_of, whose_at}

-- why a run that may go on stops before the next step of a hart, after a step from another memory
abbrev pub why_met : List (Option Point) → Memory → ℕ → Process → Option Why
why_met points was hart process = reason points 1 0 (record { process = process; turn = hart; was = was; alone = false })

-- the same at a place that a step from another one has led to
abbrev pub why_behind : List (Option Point) → Place → Option Whose → Place → Option Why
why_behind points was None now = None
why_behind points was (Some whose) now = why_met points was.process.memory (hart_of whose now.turn) now.process

-- why a run along a path stops after so many steps, if it does: at its first place, and where it has no next step, it does not
abbrev pub met_at : List (Option Point) → List Stretch → Place → ℕ → Option Why
met_at points path first zero = None
met_at points path first (suc count) =
    option_and_then (λ was. option_and_then (why_behind points was (whose_at path (suc count))) (along path (suc count) first)) (along path count first)

-- The last place before `high` at which something is met: none after `low`, or this one, and none after it.
abbrev pub LastMet : (ℕ → Option Why) → ℕ → ℕ → Option Met → Type 0
LastMet met low high None = (i : ℕ) → low < i → i < high → met i ≡ None
LastMet met low high (Some found) =
    (found.steps < high) × ((met found.steps ≡ Some found.why) × ((i : ℕ) → found.steps < i → i < high → met i ≡ None))

-- what was met, counted from so many steps before
abbrev pub shifted : ℕ → Option Met → Option Met
shifted before None = None
shifted before (Some found) = Some (record { steps = before + found.steps; why = found.why })

-- ---- the words of the search

-- the first of some numbers: the one so far, else this one, if it is one
abbrev pub first_hit : Option ℕ → ℕ → Bool → Option ℕ
first_hit (Some first) number is_hit = Some first
first_hit None number is_hit = if is_hit then Some number else None

-- why a run stops that has hit this watch, or is at this break
abbrev pub why_before : Option ℕ → Option ℕ → Option Why
why_before (Some number) at = Some (Watch number)
why_before None at = option_map Break at

-- what is noted after so many steps
abbrev pub why_noted : ℕ → Option ℕ → List (Option Point) → Option Registers → Option Why
why_noted zero hit points registers = None
why_noted (suc count) hit points registers = why_before hit (break_at points registers)

-- what was met last: this, after so many steps, if it is something
abbrev pub noted : Option Met → ℕ → Option Why → Option Met
noted met steps None = met
noted met steps (Some why) = Some (record { steps = steps; why = why })
