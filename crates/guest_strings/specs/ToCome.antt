-- What is to come of a string that is handed on reference by reference.
use Rattle.std.specs.Prelude.{ℕ, ◌+◌, ◌*◌, List, [], ◌∷◌, ◌++◌, Option, Some, None}
use Rattle.guest_strings.specs.declared.reference.Reference.{Reference}
use Rattle.guest_strings.specs.declared.step_use.StepUse.{StepUse}
use Rattle.guest_strings.specs.declared.round.Round.{Round}
use Rattle.guest_strings.specs.declared.uses.Uses.{Uses}
use Rattle.guest_strings.specs.declared.guest_string.GuestString.{GuestString}
use Rattle.guest_strings.specs.References.{used, joined}
use Rattle.guest_strings.specs.Slices.{by_slices}

abbrev pub listed : Option Reference → List Reference
listed None = []
listed (Some reference) = reference ∷ []

-- what one step refers to
abbrev pub told : StepUse → List Reference
told step = listed step.fetched ++ listed step.data

abbrev pub told_by : Option StepUse → List Reference
told_by None = []
told_by (Some step) = told step

-- what the instructions refer to that still run
abbrev pub uses_to_come : Round → List Reference
uses_to_come round = used round.accesses (by_slices round.slice round.left round.turn round.processes.items) round.processes.items

-- and what the last of them refers to that is not yet taken
abbrev pub all_uses : Uses → List Reference
all_uses uses = listed uses.data ++ uses_to_come uses.round

-- a bound on how many those are
abbrev pub data_left : Option Reference → ℕ
data_left None = 0
data_left (Some reference) = 1

abbrev pub uses_left : Uses → ℕ
uses_left uses = 2 * uses.round.left + data_left uses.data

-- the references that are handed on from here on
abbrev pub to_come : GuestString → List Reference
to_come string = joined (listed string.held ++ all_uses string.uses)
