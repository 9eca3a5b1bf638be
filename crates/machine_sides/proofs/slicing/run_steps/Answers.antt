use Rattle.machine_sides.proofs.SlicesInARow.{many_of_steps}
use Rattle.machine_sides.proofs.slicing.run_steps.Goals as goal

pub returns-clause-slices : goal.returns-clause-slices
returns-clause-slices g c = many_of_steps g.S.SwapSlot.content g.S.SwapSlot.honest c.args.hart c.steps.result.ran c.steps.result.last c.args.space.now c.steps.new.self c.steps.ensures.each
