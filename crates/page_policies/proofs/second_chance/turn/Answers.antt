use Rattle.std.proofs.Common.{◌≡◌, ◌+◌, length, List, [], ◌∷◌, ◌++◌, arith, sym, ap, ◌∙◌}
use Rattle.clock_policy.specs.declared.entry.EntryKind.TheVariants.{Cold}
use Rattle.page_ring.specs.Linked.{Cell}
use Rattle.page_ring.specs.Chain.{of_kind}
use Rattle.page_policies.specs.SecondChance.{turned, slots_of}
use Rattle.page_policies.proofs.SlotLaws.{slots-append, FrontAt, front_at}
use Rattle.page_policies.proofs.second_chance.turn.Goals as goal

pub mark-requires : goal.mark-requires
mark-requires c = (front_at c.args.ring.now.cells c.front-at.result c.requires c.front-at.ensures).held

pub turn-requires : goal.turn-requires
turn-requires c =
    let f : FrontAt c.args.ring.now.cells c.front-at.result = front_at c.args.ring.now.cells c.front-at.result c.requires c.front-at.ensures in
    let marked : c.mark.new.self.cells ≡ of_kind Cold f.cell ∷ f.rest = c.mark.ensures.cells [] f.rest f.cell f.parts (sym f.is) in
    let long : length c.mark.new.self.cells ≡ length f.rest + 1 = ap length marked ∙ omega arith in
    omega (arith, long)

pub returns-clause-slots : goal.returns-clause-slots
returns-clause-slots c =
    let f : FrontAt c.args.ring.now.cells c.front-at.result = front_at c.args.ring.now.cells c.front-at.result c.requires c.front-at.ensures in
    let marked : c.mark.new.self.cells ≡ of_kind Cold f.cell ∷ f.rest = c.mark.ensures.cells [] f.rest f.cell f.parts (sym f.is) in
    let last : c.turn.new.self.cells ≡ f.rest ++ of_kind Cold f.cell ∷ [] = c.turn.ensures.cells (of_kind Cold f.cell) f.rest marked in
    ap slots_of last ∙ slots-append f.rest (of_kind Cold f.cell ∷ []) ∙ sym (ap (λ (l : List Cell). turned (slots_of l)) f.parts)
