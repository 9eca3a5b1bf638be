-- A run that is searched for points.
use Rattle.std.specs.Prelude.{◌≡◌, ◌+◌, List, Option, Some}
use Rattle.std.specs.List.{position_from}
use Rattle.flat_machine.specs.Process.{hart_registers}
use Rattle.debug_core.specs.Points.{is_hit}
use Rattle.debug_core.specs.declared.point.Point.{Point}
use Rattle.run_paths.specs.declared.path.Whose.{Whose}
use Rattle.run_paths.specs.declared.searching.Search.{Search}
use Rattle.run_paths.specs.Meeting.{noted, why_noted}
use Rattle.run_paths.specs.Paths.{hart_of, step_of}

-- it has noted what was met, and has taken one step
pub record Advances (points : List (Option Point)) (whose : Whose) (old new : Search) : Type 0 where
  pub stepped : step_of (hart_of whose old.place.turn) old.place ≡ Some new.place
  pub steps : new.steps ≡ old.steps + 1
  pub hit : new.hit ≡ position_from (is_hit old.place.process.memory new.place.process.memory) 0 points
  pub met : new.met ≡ noted old.met old.steps (why_noted old.steps old.hit points (hart_registers (hart_of whose old.place.turn) old.place.process))
