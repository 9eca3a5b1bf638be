use Rattle.std.proofs.Common.{◌≡◌, take}
use Rattle.space_core.proofs.same_image.are_same_pages.Given as goal

abbrev pub invariant-loop-place : goal.invariant-loop-place
invariant-loop-place l = take l.place l.pages ≡ take l.place l.others
