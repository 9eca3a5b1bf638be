use Rattle.std.proofs.Common.{subst}
use Rattle.paged_memory.proofs.cleaning_laws.CopiesCallLaws.{copies_out}
use Rattle.paged_memory.specs.cleaning.Cleaning.{CopiesOut}
use Rattle.space_core.specs.StandsFor.{SpaceValue}
use Rattle.paged_memory.proofs.ShowingLaws.{copied_given_up}
use Rattle.space_core.proofs.CodeSpaces.{decoded_pages_same}
use Rattle.space_core.proofs.space.Space.copy_clean.Goals as goal

pub invariant_of-self : goal.invariant_of-self
invariant_of-self g c =
    let inside : SpaceValue g.row.S.Denot = record { image = c.self.inside.image; input = c.self.inside.input; running = c.self.inside.recorded.running; schedule = c.self.inside.recorded.schedule; memory = c.self.inside.memory; purged = c.self.inside.purged } in
    let did = c.copy_clean.ensures in
    decoded_pages_same g.S.SwapSlot.content g.S.SwapSlot.honest c.self.inside.decoded inside c.copy_clean.new.self did.stays did.memory
    (copied_given_up c.args.vpn c.args.spare.now c.copy_clean.new.spare c.copy_clean.result c.self.inside.memory c.copy_clean.new.self did.answer)
    c.self.invariant

pub returns-clause-copies : goal.returns-clause-copies
returns-clause-copies g c =
    subst (λ (v : SpaceValue g.row.S.Denot). CopiesOut c.args.vpn c.copy_clean.result v.memory c.copy_clean.new.self) c.self.view_is
    (copies_out c.args.vpn c.args.spare.now c.copy_clean.new.spare c.copy_clean.result c.self.inside.memory c.copy_clean.new.self c.requires c.copy_clean.ensures.stays c.copy_clean.ensures.answer)
