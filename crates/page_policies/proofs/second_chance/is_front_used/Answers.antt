use Rattle.std.proofs.Common.{◌≡◌, ◌≤◌, length, List, arith, sym, ap, ◌∙◌, subst}
use Rattle.clock_policy.specs.ClockPro.{is_hot}
use Rattle.page_ring.specs.Linked.{Cell, first_at, last_at}
use Rattle.page_ring.specs.Chain.{Rotates, same}
use Rattle.page_ring.specs.declared.links.Node.{Node}
use Rattle.page_policies.specs.SecondChance.{front_used, slots_of}
use Rattle.page_policies.proofs.SlotLaws.{FrontAt, front_at}
use Rattle.page_policies.proofs.second_chance.is_front_used.Goals as goal

pub node-requires : goal.node-requires
node-requires c = let some : 1 ≤ length c.args.ring.now.cells = omega (arith, c.len.ensures.len) in (front_at c.args.ring.now.cells c.front.result some c.front.ensures).held

pub returns : goal.returns
returns c =
    let some : 1 ≤ length c.args.ring.now.cells = omega (arith, c.len.ensures.len) in
    let f : FrontAt c.args.ring.now.cells c.front.result = front_at c.args.ring.now.cells c.front.result some c.front.ensures in
    let node : c.node.result ≡ record { entry = f.cell.entry; next = first_at f.rest c.front.result; previous = last_at c.front.result f.rest } =
    c.node.ensures f.cell f.rest (subst (Rotates c.args.ring.now.cells) f.parts same) (sym f.is) in
    c.is_hot.ensures ∙ ap (λ (n : Node). is_hot n.entry.kind) node ∙ sym (ap (λ (l : List Cell). front_used (slots_of l)) f.parts)
