use Rattle.std.proofs.Common.{subst}
use Rattle.paged_memory.proofs.cleaning_laws.CopiesCallLaws.{copies_back}
use Rattle.paged_memory.specs.cleaning.Cleaning.{CopiesBack}
use Rattle.space_core.specs.StandsFor.{SpaceValue}
use Rattle.paged_memory.proofs.ShowingLaws.{ended_given_up}
use Rattle.space_core.proofs.CodeSpaces.{decoded_pages_same}
use Rattle.space_core.proofs.space.Space.cleaned.Goals as goal

pub invariant_of-self : goal.invariant_of-self
invariant_of-self g c =
    let inside : SpaceValue g.row.S.Denot = record { image = c.self.inside.image; input = c.self.inside.input; running = c.self.inside.recorded.running; schedule = c.self.inside.recorded.schedule; memory = c.self.inside.memory; purged = c.self.inside.purged } in
    let did = c.cleaned.ensures in
    decoded_pages_same g.S.SwapSlot.content g.S.SwapSlot.honest c.self.inside.decoded inside c.cleaned.new.self did.stays did.memory
    (ended_given_up c.args.job c.cleaned.result c.self.inside.memory c.cleaned.new.self did.ended)
    c.self.invariant

pub returns-clause-copies : goal.returns-clause-copies
returns-clause-copies g c =
    subst (λ (v : SpaceValue g.row.S.Denot). CopiesBack c.args.job c.cleaned.result v.memory c.cleaned.new.self) c.self.view_is
    (copies_back c.args.job c.cleaned.result c.self.inside.memory c.cleaned.new.self c.cleaned.ensures.stays c.cleaned.ensures.ended)
