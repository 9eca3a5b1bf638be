use Rattle.std.proofs.Common.{◌≡◌, map}
use Rattle.run_picture.proofs.Harts.{seen_before}
use Rattle.run_picture.specs.Processes.{hart_seen}
use Rattle.run_picture.proofs.shown_hart.shown_harts.Given as goal

abbrev pub invariant-harts : goal.invariant-harts
invariant-harts g l = map hart_seen l.shown.items ≡ seen_before l.number l.process
