use Rattle.std.proofs.Common.{length, sym, ap, ◌∙◌}
use Rattle.std.specs.Option.{is_some}
use Rattle.clock_policy.specs.declared.entry.EntryKind.TheVariants.{Hot}
use Rattle.page_ring.specs.Chain.{of_kind}
use Rattle.page_policies.specs.SecondChance.{slots_of}
use Rattle.page_policies.proofs.SlotLaws.{in_slots_at, Touches, touches, found_at, length_marked}
use Rattle.page_policies.proofs.second_chance.touch.Goals as goal

pub mark-requires : goal.mark-requires
mark-requires c = found_at c.args.page c.args.ring.now.cells c.in-Some.at (sym c.in-Some.ensures)

pub returns-in-Some-clause-found : goal.returns-in-Some-clause-found
returns-in-Some-clause-found c = ap is_some c.in-Some.ensures ∙ sym (in_slots_at c.args.page c.args.ring.now.cells)

pub returns-in-Some-clause-slots : goal.returns-in-Some-clause-slots
returns-in-Some-clause-slots c = λ _.
    let e : Touches c.args.page c.args.ring.now.cells c.in-Some.at = touches c.args.page c.args.ring.now.cells c.in-Some.at (sym c.in-Some.ensures) in
    ap slots_of (c.mark.ensures.cells e.before e.behind e.cell e.parts e.is) ∙ e.touches

pub returns-in-Some-clause-len : goal.returns-in-Some-clause-len
returns-in-Some-clause-len c =
    let e : Touches c.args.page c.args.ring.now.cells c.in-Some.at = touches c.args.page c.args.ring.now.cells c.in-Some.at (sym c.in-Some.ensures) in
    ap length (c.mark.ensures.cells e.before e.behind e.cell e.parts e.is) ∙ length_marked c.args.ring.now.cells e.before e.behind e.cell (of_kind Hot e.cell) e.parts

pub returns-in-None-clause-found : goal.returns-in-None-clause-found
returns-in-None-clause-found c = ap is_some c.in-None.ensures ∙ sym (in_slots_at c.args.page c.args.ring.now.cells)
