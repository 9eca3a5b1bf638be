use Rattle.std.proofs.Common.{◌≡◌, map, take}
use Rattle.run_picture.specs.Pictures.{shown_in}
use Rattle.run_picture.proofs.shown_page.shown_pages.Given as goal

abbrev pub invariant-pages : goal.invariant-pages
invariant-pages g l = l.shown.items ≡ map (shown_in l.core) (take l.key-index l.pages)
