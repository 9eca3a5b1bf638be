-- Pairs of steps and bytes of output, and their order.
use Rattle.std.specs.Prelude.{◌≤◌, max}
use Rattle.status_cell.specs.declared.status.Status.{Status}

-- neither number of the first pair is above that of the second
abbrev pub AtMost : Status → Status → Type 0
AtMost s t = (s.steps ≤ t.steps) × (s.output ≤ t.output)

-- no step and no output
abbrev pub nothing : Status
nothing = record { steps = 0; output = 0 }

-- of two pairs the larger numbers
abbrev pub most : Status → Status → Status
most s t = record { steps = max s.steps t.steps; output = max s.output t.output }
