use Rattle.std.proofs.Common.{take}
use Rattle.run_picture.specs.Films.{IsFilm}
use Rattle.run_picture.proofs.drive.film.Given as goal

abbrev pub invariant-events : goal.invariant-events
invariant-events g l = IsFilm g.S.SwapSlot.content g.S.SwapSlot.honest g.S.SwapSlot.failures (take l.event-index l.events) l.scenes.items l.initial.core l.core
