use Rattle.std.proofs.Common.{subst}
use Rattle.paged_memory.proofs.NoticesLaws.{cleared_harts}
use Rattle.paged_memory.proofs.ShowingLaws.{forgotten_given_up, forgotten_shown}
use Rattle.paged_memory.specs.cleaning.Copies.{LeavesCopies}
use Rattle.paged_memory.proofs.cleaning_laws.CopiesCallLaws.{forgotten_copies}
use Rattle.space_core.specs.StandsFor.{SpaceValue}
use Rattle.space_core.proofs.CodeSpaces.{decoded_memory}
use Rattle.space_core.proofs.space.Space.test_and_clear.Goals as goal

pub invariant_of-self : goal.invariant_of-self
invariant_of-self g c =
    let inside : SpaceValue g.row.S.Denot = record { image = c.self.inside.image; input = c.self.inside.input; running = c.self.inside.recorded.running; schedule = c.self.inside.recorded.schedule; memory = c.self.inside.memory; purged = c.self.inside.purged } in
    let did = c.test_and_clear_accessed.ensures in
    decoded_memory g.S.SwapSlot.content g.S.SwapSlot.honest c.self.inside.decoded inside c.test_and_clear_accessed.new.self
    (cleared_harts c.test_and_clear_accessed.result c.args.vpn c.self.inside.memory c.test_and_clear_accessed.new.self did.gone did.forgets)
    (forgotten_shown g.S.SwapSlot.content c.test_and_clear_accessed.result c.args.vpn inside.memory c.test_and_clear_accessed.new.self did.gone did.forgets)
    (forgotten_given_up c.test_and_clear_accessed.result c.args.vpn inside.memory c.test_and_clear_accessed.new.self did.gone did.forgets) c.self.invariant

pub returns-clause-copies : goal.returns-clause-copies
returns-clause-copies g c =
    subst (λ (v : SpaceValue g.row.S.Denot). LeavesCopies v.memory c.test_and_clear_accessed.new.self) c.self.view_is
    (forgotten_copies c.test_and_clear_accessed.result c.args.vpn c.self.inside.memory c.test_and_clear_accessed.new.self c.test_and_clear_accessed.ensures.gone c.test_and_clear_accessed.ensures.forgets)
