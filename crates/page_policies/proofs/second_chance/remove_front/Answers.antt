use Rattle.std.proofs.Common.{◌≡◌, ◌≤◌, length, drop, List, [], arith, sym, ap, ◌∙◌}
use Rattle.page_ring.specs.Linked.{Cell}
use Rattle.page_policies.specs.SecondChance.{slots_of}
use Rattle.page_policies.proofs.SlotLaws.{FrontAt, front_at}
use Rattle.page_policies.proofs.second_chance.remove_front.Goals as goal

pub remove-requires : goal.remove-requires
remove-requires c = let some : 1 ≤ length c.args.ring.now.cells = omega (arith, c.len.ensures.len) in (front_at c.args.ring.now.cells c.front-at.result some c.front-at.ensures).held

pub returns-clause-slots : goal.returns-clause-slots
returns-clause-slots c =
    let some : 1 ≤ length c.args.ring.now.cells = omega (arith, c.len.ensures.len) in
    let f : FrontAt c.args.ring.now.cells c.front-at.result = front_at c.args.ring.now.cells c.front-at.result some c.front-at.ensures in
    let out : c.remove.new.self.cells ≡ f.rest = c.remove.ensures.cells [] f.rest f.cell f.parts (sym f.is) in
    ap slots_of out ∙ sym (ap (λ (l : List Cell). drop 1 (slots_of l)) f.parts)
