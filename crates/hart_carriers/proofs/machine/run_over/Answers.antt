-- What the run on the pager's desk comes to is what is reported.
use Rattle.std.proofs.Common.{vec_len}
use Rattle.hart_carriers.proofs.Reported.{reported}
use Rattle.hart_carriers.proofs.machine.run_over.Goals as goal

pub returns-in-Ok-clause-run : goal.returns-in-Ok-clause-run
returns-in-Ok-clause-run g c =
    let e = c.in-Ok.ensures in
    reported g.S.SwapSlot.honest c.args.frames (vec_len c.args.slots) c.args.handed.now c.args.wanted.now c.in-Ok.ran.0 e.stands e.last e.shown e.many e.ended e.frames e.slots e.crew e.cleans e.sound
