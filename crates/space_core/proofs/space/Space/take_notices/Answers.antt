use Rattle.paged_memory.proofs.NoticesLaws.{noticed_harts, noticed_only}
use Rattle.space_core.specs.StandsFor.{SpaceValue}
use Rattle.space_core.proofs.CodeSpaces.{decoded_cached}
use Rattle.space_core.proofs.space.Space.take_notices.Goals as goal

pub invariant_of-self : goal.invariant_of-self
invariant_of-self g c =
    let inside : SpaceValue g.row.S.Denot = record { image = c.self.inside.image; input = c.self.inside.input; running = c.self.inside.recorded.running; schedule = c.self.inside.recorded.schedule; memory = c.self.inside.memory; purged = c.self.inside.purged } in
    decoded_cached g.S.SwapSlot.content g.S.SwapSlot.honest c.self.inside.decoded inside c.take_notices.new.self (noticed_harts c.args.hart _ inside.memory c.take_notices.new.self c.take_notices.ensures)
    (noticed_only c.args.hart _ inside.memory c.take_notices.new.self c.take_notices.ensures) c.self.invariant
