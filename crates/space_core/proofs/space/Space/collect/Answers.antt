use Rattle.std.proofs.Common.{subst}
use Rattle.paged_memory.proofs.ShowingLaws.{collected_given_up}
use Rattle.paged_memory.specs.cleaning.Copies.{LeavesCopies}
use Rattle.paged_memory.proofs.cleaning_laws.CopiesCallLaws.{collected_copies}
use Rattle.space_core.specs.StandsFor.{SpaceValue}
use Rattle.space_core.proofs.CodeSpaces.{decoded_pages_moved}
use Rattle.space_core.proofs.space.Space.collect.Goals as goal

pub invariant_of-self : goal.invariant_of-self
invariant_of-self g c =
    let inside : SpaceValue g.row.S.Denot = record { image = c.self.inside.image; input = c.self.inside.input; running = c.self.inside.recorded.running; schedule = c.self.inside.recorded.schedule; memory = c.self.inside.memory; purged = c.self.inside.purged } in
    decoded_pages_moved g.S.SwapSlot.content g.S.SwapSlot.honest c.self.inside.decoded inside c.collect.new.self c.collect.ensures.stays c.collect.ensures.memory c.collect.ensures.read_only
    (collected_given_up _ c.args.vpn c.args.spare.now c.collect.new.spare c.collect.result c.self.inside.memory c.collect.new.self c.collect.ensures.answer)
    c.self.invariant

pub returns-clause-copies : goal.returns-clause-copies
returns-clause-copies g c =
    subst (λ (v : SpaceValue g.row.S.Denot). LeavesCopies v.memory c.collect.new.self) c.self.view_is
    (collected_copies _ c.args.vpn c.args.spare.now c.collect.new.spare c.collect.result c.self.inside.memory c.collect.new.self c.requires c.collect.ensures.stays c.collect.ensures.same c.collect.ensures.answer)
