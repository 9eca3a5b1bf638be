-- One more page, the next.
use Rattle.std.proofs.Common.{◌∙◌}
use Rattle.run_picture.specs.Pictures.{shown_in}
use Rattle.run_picture.proofs.Telling.{told_next}
use Rattle.run_picture.proofs.shown_page.shown_pages.Goals as goal

pub pages-preserved : goal.pages-preserved
pages-preserved g c =
    c.in_ok-push.ensures.items
    ∙ told_next (shown_in c.args.core.now) c.args.pages.now c.pages.key-index _ c.pages.shown.items c.show.result c.pages-test.true c.pages.invariant c.show.ensures
