-- One process more was looked at.
use Rattle.std.proofs.Common.{◌<◌, length, arith}
use Rattle.space_core.specs.StandsFor.{StandsFor}
use Rattle.hart_carriers.proofs.Standing.{each_more}
use Rattle.hart_carriers.proofs.closing.all_stand.Goals as goal

pub loop-held-preserved : goal.loop-held-preserved
loop-held-preserved g c =
    let small : c.loop-held.held-index < length c.args.processes.now = omega (arith, c.loop-held-test.true) in
    each_more (λ h. g.S.SwapSlot.honest → StandsFor g.S.SwapSlot.content h.side) c.args.processes.now c.loop-held.held-index c.held-item.result small c.held-item.is c.coherent.ensures.stands c.loop-held.invariant

pub returns : goal.returns
returns g c = λ honest k d small. c.loop-held.invariant k d (omega (arith, small, c.loop-held-test.false)) honest
