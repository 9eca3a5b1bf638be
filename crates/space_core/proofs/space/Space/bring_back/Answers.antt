use Rattle.std.proofs.Common.{subst}
use Rattle.paged_memory.specs.cleaning.Copies.{LeavesCopies}
use Rattle.paged_memory.proofs.cleaning_laws.CopiesCallLaws.{returned_copies}
use Rattle.space_core.specs.StandsFor.{SpaceValue}
use Rattle.paged_memory.proofs.ShowingLaws.{returned_given_up}
use Rattle.paged_memory.proofs.access_laws.UsingLaws.{same_harts}
use Rattle.space_core.proofs.CodeSpaces.{decoded_memory}
use Rattle.space_core.proofs.space.Space.bring_back.Goals as goal

pub invariant_of-self : goal.invariant_of-self
invariant_of-self g c =
    let inside : SpaceValue g.row.S.Denot = record { image = c.self.inside.image; input = c.self.inside.input; running = c.self.inside.recorded.running; schedule = c.self.inside.recorded.schedule; memory = c.self.inside.memory; purged = c.self.inside.purged } in
    decoded_memory g.S.SwapSlot.content g.S.SwapSlot.honest c.self.inside.decoded inside c.bring_back.new.self
    (same_harts c.self.inside.memory c.bring_back.new.self c.bring_back.ensures.caches) c.bring_back.ensures.memory
    (returned_given_up c.bring_back.result c.self.inside.memory c.bring_back.new.self c.args.vpn c.bring_back.ensures.ok c.bring_back.ensures.err)
    c.self.invariant

pub returns-clause-copies : goal.returns-clause-copies
returns-clause-copies g c =
    subst (λ (v : SpaceValue g.row.S.Denot). LeavesCopies v.memory c.bring_back.new.self) c.self.view_is
    (returned_copies c.bring_back.result c.args.vpn c.self.inside.memory c.bring_back.new.self c.bring_back.ensures.ok c.bring_back.ensures.err)
