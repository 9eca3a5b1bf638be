-- Points, and one that is to be removed where there is none.
use Rattle.std.specs.Prelude.{Option, Some, None}
use Rattle.debug_core.specs.declared.point.Point.{Point}
use Rattle.debug_core.specs.declared.point.Point.TheVariants.{Break}

abbrev pub filled : Option Point → Option Point
filled None = Some (Break 0)
filled (Some point) = Some point
