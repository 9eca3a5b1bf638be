-- What has been shown so far is what the driver has played.
use Rattle.std.specs.Prelude.{max}
use Rattle.serial_driver.specs.Watched.{HasPlayed, left_of}
use Rattle.run_picture.proofs.serial_film.film_run.Given as goal

abbrev pub invariant-events : goal.invariant-events
invariant-events g l = HasPlayed g.S.SwapSlot.content g.S.SwapSlot.honest g.S.SwapSlot.failures (max l.slice 1) l.limit l.initial.core l.core l.run

abbrev pub decreases-events : goal.decreases-events
decreases-events g l = left_of l.run
