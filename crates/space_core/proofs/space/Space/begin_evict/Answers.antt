use Rattle.std.proofs.Common.{subst}
use Rattle.paged_memory.specs.cleaning.Copies.{LeavesCopies}
use Rattle.paged_memory.proofs.cleaning_laws.CopiesCallLaws.{left_copies}
use Rattle.space_core.specs.StandsFor.{SpaceValue}
use Rattle.paged_memory.proofs.NoticesLaws.{left_harts}
use Rattle.paged_memory.proofs.ShowingLaws.{left_given_up}
use Rattle.space_core.proofs.CodeSpaces.{decoded_memory}
use Rattle.space_core.proofs.space.Space.begin_evict.Goals as goal

pub invariant_of-self : goal.invariant_of-self
invariant_of-self g c =
    let inside : SpaceValue g.row.S.Denot = record { image = c.self.inside.image; input = c.self.inside.input; running = c.self.inside.recorded.running; schedule = c.self.inside.recorded.schedule; memory = c.self.inside.memory; purged = c.self.inside.purged } in
    let did = c.begin_evict.ensures in
    decoded_memory g.S.SwapSlot.content g.S.SwapSlot.honest c.self.inside.decoded inside c.begin_evict.new.self
    (left_harts c.begin_evict.result c.args.vpn c.self.inside.memory c.begin_evict.new.self did.err did.ok) did.memory
    (left_given_up c.begin_evict.result c.self.inside.memory c.begin_evict.new.self c.args.vpn did.err did.ok)
    c.self.invariant

pub returns-clause-copies : goal.returns-clause-copies
returns-clause-copies g c =
    subst (λ (v : SpaceValue g.row.S.Denot). LeavesCopies v.memory c.begin_evict.new.self) c.self.view_is
    (left_copies c.begin_evict.result c.args.vpn c.self.inside.memory c.begin_evict.new.self c.begin_evict.ensures.err c.begin_evict.ensures.ok)
