use Rattle.std.proofs.Common.{subst}
use Rattle.paged_memory.specs.cleaning.Copies.{LeavesCopies}
use Rattle.paged_memory.proofs.cleaning_laws.CopiesCallLaws.{paged_in_copies}
use Rattle.space_core.specs.StandsFor.{SpaceValue}
use Rattle.paged_memory.proofs.ShowingLaws.{paged_in_given_up}
use Rattle.paged_memory.proofs.access_laws.UsingLaws.{same_harts}
use Rattle.space_core.proofs.CodeSpaces.{decoded_moved}
use Rattle.space_core.proofs.space.Space.page_in.Goals as goal

pub invariant_of-self : goal.invariant_of-self
invariant_of-self g c =
    let inside : SpaceValue g.row.S.Denot = record { image = c.self.inside.image; input = c.self.inside.input; running = c.self.inside.recorded.running; schedule = c.self.inside.recorded.schedule; memory = c.self.inside.memory; purged = c.self.inside.purged } in
    let did = c.page_in.ensures in
    decoded_moved g.S.SwapSlot.content g.S.SwapSlot.honest c.self.inside.decoded inside c.page_in.new.self (same_harts inside.memory c.page_in.new.self did.caches) did.memory did.read_only
    (paged_in_given_up g.S.SwapSlot.content g.S.SwapSlot.honest g.S.SwapSlot.failures c.args.frame c.args.vpn inside.memory c.page_in.new.self c.page_in.result did.ok did.refused) c.self.invariant

pub returns-clause-copies : goal.returns-clause-copies
returns-clause-copies g c =
    subst (λ (v : SpaceValue g.row.S.Denot). LeavesCopies v.memory c.page_in.new.self) c.self.view_is
    (paged_in_copies g.S.SwapSlot.content g.S.SwapSlot.honest g.S.SwapSlot.failures c.args.frame c.args.vpn c.self.inside.memory c.page_in.new.self c.page_in.result c.requires c.page_in.ensures.process c.page_in.ensures.unmapped c.page_in.ensures.ok c.page_in.ensures.refused)
