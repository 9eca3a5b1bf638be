use Rattle.std.proofs.Common.{subst}
use Rattle.paged_memory.specs.cleaning.Copies.{LeavesCopies}
use Rattle.paged_memory.proofs.cleaning_laws.CopiesCallLaws.{begun_copies}
use Rattle.space_core.specs.StandsFor.{SpaceValue}
use Rattle.paged_memory.proofs.NoticesLaws.{begun_harts}
use Rattle.paged_memory.proofs.ShowingLaws.{begun_given_up}
use Rattle.space_core.proofs.CodeSpaces.{decoded_memory}
use Rattle.space_core.proofs.space.Space.begin_clean.Goals as goal

pub invariant_of-self : goal.invariant_of-self
invariant_of-self g c =
    let inside : SpaceValue g.row.S.Denot = record { image = c.self.inside.image; input = c.self.inside.input; running = c.self.inside.recorded.running; schedule = c.self.inside.recorded.schedule; memory = c.self.inside.memory; purged = c.self.inside.purged } in
    let did = c.begin_clean.ensures in
    decoded_memory g.S.SwapSlot.content g.S.SwapSlot.honest c.self.inside.decoded inside c.begin_clean.new.self
    (begun_harts c.is_some-ended.result c.begin_clean.result c.args.vpn c.self.inside.memory c.begin_clean.new.self did.err did.ok) did.memory
    (begun_given_up c.is_some-ended.result c.begin_clean.result c.self.inside.memory c.begin_clean.new.self c.args.vpn did.err did.ok)
    c.self.invariant

pub returns-clause-copies : goal.returns-clause-copies
returns-clause-copies g c =
    subst (λ (v : SpaceValue g.row.S.Denot). LeavesCopies v.memory c.begin_clean.new.self) c.self.view_is
    (begun_copies c.is_some-ended.result c.begin_clean.result c.args.vpn c.self.inside.memory c.begin_clean.new.self c.requires c.begin_clean.ensures.err c.begin_clean.ensures.ok)
