use Rattle.std.specs.Prelude.{refl}
use Rattle.std.proofs.Common.{sym, ap, ◌∙◌}
use Rattle.clock_policy.specs.ClockPro.{is_shadow, removed, fallen}
use Rattle.page_ring.specs.Chain.{Chain}
use Rattle.clock_ring.specs.BodyState.{state_of}
use Rattle.clock_ring.specs.RingState.{entry_at_node}
use Rattle.clock_ring.proofs.ScanLaws.{stands, rests_there, some_cells}
use Rattle.clock_ring.proofs.TrimLaws.{trim_whole, trim_goes_on, trim_ends}
use Rattle.clock_ring.proofs.body.Body.trim_once.Goals as goal

pub to_shadow-init : goal.to_shadow-init
to_shadow-init c =
    let b = c.args.self.now in
    let there = rests_there b.ring.cells b.test_hand (some_cells (λ e. is_shadow e.kind) b.ring.cells c.requires) b.kept.whole.test_rests in
    record {
      there = there;
      rest = trim_whole (state_of b) b.ring.cells b.test_hand refl refl
          (record { least = b.least; most = b.most; share_low = b.share_low; share_high = b.share_high; few_asked = b.few_asked; distinct = b.kept.whole.distinct })
          b.kept.whole.apart b.kept.whole.distinct there c.requires;
      some = c.requires;
    }

pub set_test_hand-requires : goal.set_test_hand-requires
set_test_hand-requires c = (stands c.to_shadow.self.ring.cells c.to_shadow.at c.node-node.result c.to_shadow.self.kept.whole.apart c.to_shadow.invariant.there c.node-node.ensures).holds

pub remove-requires : goal.remove-requires
remove-requires c = ap (λ (r : Chain). entry_at_node r.cells c.to_shadow.at) c.set_test_hand.ensures.same ∙ (stands c.to_shadow.self.ring.cells c.to_shadow.at c.node-node.result c.to_shadow.self.kept.whole.apart c.to_shadow.invariant.there c.node-node.ensures).holds

pub returns-then-is_shadow : goal.returns-then-is_shadow
returns-then-is_shadow c = record {
  moved =
      c.fall.ensures.moved
      ∙ ap (fallen 1) (c.remove.ensures.moved ∙ ap (removed c.node-node.result.entry.key) c.set_test_hand.ensures.moved)
      ∙ trim_ends c.to_shadow.self.ring.cells c.to_shadow.at c.node-node.result (state_of c.to_shadow.self) c.to_shadow.self.kept.whole.apart c.to_shadow.invariant.there c.node-node.ensures (sym c.is_shadow.ensures ∙ c.if-is_shadow.true)
      ∙ c.to_shadow.invariant.rest;
}

pub end_test-requires-clause-holds : goal.end_test-requires-clause-holds
end_test-requires-clause-holds c = (stands c.to_shadow.self.ring.cells c.to_shadow.at c.node-node.result c.to_shadow.self.kept.whole.apart c.to_shadow.invariant.there c.node-node.ensures).holds

pub to_shadow-smaller : goal.to_shadow-smaller
to_shadow-smaller c = (trim_goes_on c.to_shadow.self.ring.cells c.end_test.new.self.ring.cells c.to_shadow.at c.node-node.result (state_of c.to_shadow.self) (state_of c.end_test.new.self) c.to_shadow.self.kept.whole.apart c.end_test.new.self.kept.whole.apart c.to_shadow.invariant.there c.node-node.ensures c.to_shadow.invariant.some (sym c.is_shadow.ensures ∙ c.if-is_shadow.false) c.end_test.ensures.cells c.end_test.ensures.moved).nearer

pub to_shadow-preserved : goal.to_shadow-preserved
to_shadow-preserved c =
    let step = trim_goes_on c.to_shadow.self.ring.cells c.end_test.new.self.ring.cells c.to_shadow.at c.node-node.result (state_of c.to_shadow.self) (state_of c.end_test.new.self) c.to_shadow.self.kept.whole.apart c.end_test.new.self.kept.whole.apart c.to_shadow.invariant.there c.node-node.ensures c.to_shadow.invariant.some (sym c.is_shadow.ensures ∙ c.if-is_shadow.false) c.end_test.ensures.cells c.end_test.ensures.moved in
    record { there = step.there; rest = step.rest ∙ c.to_shadow.invariant.rest; some = step.some }
