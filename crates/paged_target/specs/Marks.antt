-- Which harts of a machine's one process are live.
use Rattle.std.specs.Prelude.{Bool, List, [], Option, Some, None, slice_get}
use Rattle.machine_core.specs.Machine.{CoreValue}
use Rattle.space_core.specs.StandsFor.{SpaceValue}

module _ {S : Type 0} where
  abbrev pub marks_in : Option (SpaceValue S) → List Bool
  marks_in None = []
  marks_in (Some side) = side.running.environment.live

  -- of each hart that was started, whether it is live
  abbrev pub marks_at : CoreValue S → List Bool
  marks_at core = marks_in (slice_get core.processes 0)
