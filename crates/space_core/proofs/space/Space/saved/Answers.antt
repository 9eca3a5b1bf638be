use Rattle.std.proofs.Common.{subst}
use Rattle.paged_memory.proofs.ShowingLaws.{saved_given_up}
use Rattle.paged_memory.specs.cleaning.Copies.{LeavesCopies}
use Rattle.paged_memory.proofs.cleaning_laws.CopiesCallLaws.{saved_copies}
use Rattle.space_core.specs.StandsFor.{SpaceValue}
use Rattle.space_core.proofs.CodeSpaces.{decoded_pages_moved}
use Rattle.space_core.proofs.space.Space.saved.Goals as goal

pub invariant_of-self : goal.invariant_of-self
invariant_of-self g c =
    let inside : SpaceValue g.row.S.Denot = record { image = c.self.inside.image; input = c.self.inside.input; running = c.self.inside.recorded.running; schedule = c.self.inside.recorded.schedule; memory = c.self.inside.memory; purged = c.self.inside.purged } in
    decoded_pages_moved g.S.SwapSlot.content g.S.SwapSlot.honest c.self.inside.decoded inside c.saved.new.self c.saved.ensures.stays c.saved.ensures.memory c.saved.ensures.read_only
    (saved_given_up c.args.job c.saved.result c.self.inside.memory c.saved.new.self c.saved.ensures.freed c.saved.ensures.refused)
    c.self.invariant

pub returns-clause-copies : goal.returns-clause-copies
returns-clause-copies g c =
    subst (λ (v : SpaceValue g.row.S.Denot). LeavesCopies v.memory c.saved.new.self) c.self.view_is
    (saved_copies c.args.job c.saved.result c.self.inside.memory c.saved.new.self c.saved.ensures.stays c.saved.ensures.freed c.saved.ensures.refused)
