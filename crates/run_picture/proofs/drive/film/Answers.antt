-- A film that goes on by a scene.
use Rattle.std.proofs.Common.{◌+◌, take, [], sym, subst}
use Rattle.run_picture.specs.Films.{IsFilm}
use Rattle.run_picture.proofs.Filming.{film_none, film_next}
use Rattle.run_picture.proofs.drive.film.Goals as goal

pub events-init : goal.events-init
events-init g c =
    subst (λ l. IsFilm g.S.SwapSlot.content g.S.SwapSlot.honest g.S.SwapSlot.failures [] l c.args.core.now c.args.core.now) (sym c.new-scenes.ensures.items)
    (film_none g.S.SwapSlot.content g.S.SwapSlot.honest g.S.SwapSlot.failures c.args.core.now)

pub events-preserved : goal.events-preserved
events-preserved g c =
    subst (λ l. IsFilm g.S.SwapSlot.content g.S.SwapSlot.honest g.S.SwapSlot.failures (take (c.events.event-index + 1) c.args.events.now) l c.args.core.now c.next_scene.new.core) (sym c.in_ok-push.ensures.items)
    (film_next _ _ _ c.args.events.now c.events.event-index _ c.events.scenes.items c.args.core.now c.events.core c.next_scene.new.core c.in_ok-scene.scene c.events-test.true c.events.invariant c.in_ok-scene.ensures)
