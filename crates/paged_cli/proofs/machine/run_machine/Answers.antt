-- What the run owes is what is reported of it.
use Rattle.hart_carriers.specs.FlatLines.{starts_of}
use Rattle.paged_cli.proofs.Starts.{came_to}
use Rattle.paged_cli.proofs.machine.run_machine.Goals as goal

pub returns-in-Ok : goal.returns-in-Ok
returns-in-Ok g c =
    came_to g.S.SwapSlot.honest c.args.frames c.args.slots (starts_of c.args.handed.now) c.args.wanted.now c.in-Ok.run' c.in-Ok.ensures.run
