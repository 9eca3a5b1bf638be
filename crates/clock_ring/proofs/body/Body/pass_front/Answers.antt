use Rattle.std.specs.Prelude.{◌≤◌, [], List, length, refl}
use Rattle.std.proofs.Common.{arith, sym, ap, ◌∙◌, subst, append-nil}
use Rattle.clock_policy.specs.ClockPro.{fallen}
use Rattle.clock_policy.specs.declared.entry.EntryKind.TheVariants.{Hot, Test, Cold, Shadow}
use Rattle.clock_policy.specs.SingleMoves.{front_turned}
use Rattle.page_ring.specs.Linked.{Cell}
use Rattle.page_ring.specs.Chain.{Chain, of_kind}
use Rattle.clock_ring.specs.BodyState.{state_of}
use Rattle.clock_ring.proofs.PassLaws.{front_is, passed_one, passed_cells}
use Rattle.clock_ring.proofs.body.Body.pass_front.Goals as goal

pub mark-requires : goal.mark-requires
mark-requires c = let b = c.args.self.now in (front_is b.ring.cells c.front-at.result c.node.result c.requires c.front-at.ensures c.node.ensures).holds

pub remove-requires : goal.remove-requires
remove-requires c = let b = c.args.self.now in (front_is b.ring.cells c.front-at.result c.node.result c.requires c.front-at.ensures c.node.ensures).holds

pub turn-requires-in-Test : goal.turn-requires-in-Test
turn-requires-in-Test c =
    let b = c.args.self.now in
    let f = front_is b.ring.cells c.front-at.result c.node.result c.requires c.front-at.ensures c.node.ensures in
    let d : Cell = record { at = c.front-at.result; entry = c.node.result.entry } in
    subst (λ (l : List Cell). 1 ≤ length l) (sym (c.mark.ensures.cells [] f.rest d f.parts refl)) (omega arith)

pub returns-in-Hot-clause-moved : goal.returns-in-Hot-clause-moved
returns-in-Hot-clause-moved c =
    let b = c.args.self.now in
    let f = front_is b.ring.cells c.front-at.result c.node.result c.requires c.front-at.ensures c.node.ensures in
    c.turn.ensures.moved ∙ sym (passed_one (state_of b) b.ring.cells c.front-at.result c.node.result.entry Hot refl f c.in-Hot.is)

pub returns-in-Hot-clause-cells : goal.returns-in-Hot-clause-cells
returns-in-Hot-clause-cells c =
    let b = c.args.self.now in
    let f = front_is b.ring.cells c.front-at.result c.node.result c.requires c.front-at.ensures c.node.ensures in
    let d : Cell = record { at = c.front-at.result; entry = c.node.result.entry } in
    passed_cells b.ring.cells _ c.front-at.result c.node.result.entry Hot f c.in-Hot.is (c.turn.ensures.cells d f.rest f.parts)

pub returns-in-Test-clause-moved : goal.returns-in-Test-clause-moved
returns-in-Test-clause-moved c =
    let b = c.args.self.now in
    let f = front_is b.ring.cells c.front-at.result c.node.result c.requires c.front-at.ensures c.node.ensures in
    c.fall.ensures.moved ∙ ap (fallen 1) (c.turn-in-Test.ensures.moved ∙ ap front_turned c.mark.ensures.moved) ∙ sym (passed_one (state_of b) b.ring.cells c.front-at.result c.node.result.entry Test refl f c.in-Test.is)

pub returns-in-Test-clause-cells : goal.returns-in-Test-clause-cells
returns-in-Test-clause-cells c =
    let b = c.args.self.now in
    let f = front_is b.ring.cells c.front-at.result c.node.result c.requires c.front-at.ensures c.node.ensures in
    let d : Cell = record { at = c.front-at.result; entry = c.node.result.entry } in
    passed_cells b.ring.cells _ c.front-at.result c.node.result.entry Test f c.in-Test.is (ap (λ (r : Chain). r.cells) c.fall.ensures.same ∙ c.turn-in-Test.ensures.cells (of_kind Cold d) f.rest (c.mark.ensures.cells [] f.rest d f.parts refl))

pub returns-in-Cold-clause-moved : goal.returns-in-Cold-clause-moved
returns-in-Cold-clause-moved c =
    let b = c.args.self.now in
    let f = front_is b.ring.cells c.front-at.result c.node.result c.requires c.front-at.ensures c.node.ensures in
    c.turn-in-Cold.ensures.moved ∙ sym (passed_one (state_of b) b.ring.cells c.front-at.result c.node.result.entry Cold refl f c.in-Cold.is)

pub returns-in-Cold-clause-cells : goal.returns-in-Cold-clause-cells
returns-in-Cold-clause-cells c =
    let b = c.args.self.now in
    let f = front_is b.ring.cells c.front-at.result c.node.result c.requires c.front-at.ensures c.node.ensures in
    let d : Cell = record { at = c.front-at.result; entry = c.node.result.entry } in
    passed_cells b.ring.cells _ c.front-at.result c.node.result.entry Cold f c.in-Cold.is (c.turn-in-Cold.ensures.cells d f.rest f.parts)

pub returns-in-Shadow-clause-moved : goal.returns-in-Shadow-clause-moved
returns-in-Shadow-clause-moved c =
    let b = c.args.self.now in
    let f = front_is b.ring.cells c.front-at.result c.node.result c.requires c.front-at.ensures c.node.ensures in
    c.fall-in-Shadow.ensures.moved ∙ ap (fallen 1) c.remove.ensures.moved ∙ sym (passed_one (state_of b) b.ring.cells c.front-at.result c.node.result.entry Shadow refl f c.in-Shadow.is)

pub returns-in-Shadow-clause-cells : goal.returns-in-Shadow-clause-cells
returns-in-Shadow-clause-cells c =
    let b = c.args.self.now in
    let f = front_is b.ring.cells c.front-at.result c.node.result c.requires c.front-at.ensures c.node.ensures in
    let d : Cell = record { at = c.front-at.result; entry = c.node.result.entry } in
    passed_cells b.ring.cells _ c.front-at.result c.node.result.entry Shadow f c.in-Shadow.is (ap (λ (r : Chain). r.cells) c.fall-in-Shadow.ensures.same ∙ c.remove.ensures.cells [] f.rest d f.parts refl ∙ sym (append-nil f.rest))
