use Rattle.space_core.specs.StandsFor.{SpaceValue}
use Rattle.space_core.proofs.CodeSpaces.{decoded_killed}
use Rattle.space_core.proofs.space.Space.kill.Goals as goal

pub invariant_of-self : goal.invariant_of-self
invariant_of-self g c =
    let inside : SpaceValue g.row.S.Denot = record { image = c.self.inside.image; input = c.self.inside.input; running = c.self.inside.recorded.running; schedule = c.self.inside.recorded.schedule; memory = c.self.inside.memory; purged = c.self.inside.purged } in
    decoded_killed g.S.SwapSlot.content g.S.SwapSlot.honest c.self.inside.decoded inside c.args.cause c.kill.new.self c.clear_caches.new.self c.kill.ensures c.clear_caches.ensures c.self.invariant
