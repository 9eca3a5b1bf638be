use Rattle.std.specs.Prelude.{refl}
use Rattle.std.proofs.Common.{sym, ◌∙◌}
use Rattle.clock_policy.specs.ClockPro.{is_cold}
use Rattle.clock_ring.specs.BodyState.{state_of}
use Rattle.clock_ring.proofs.ScanLaws.{asked_none, asked_hot, asked_cold, some_cold, some_cells, rests_there}
use Rattle.clock_ring.proofs.body.Body.asked_entry.Goals as goal

pub returns-then-self-eq0-clause-exact : goal.returns-then-self-eq0-clause-exact
returns-then-self-eq0-clause-exact c =
    let b = c.args.self.now in
    asked_none (state_of b) (sym c.asks_hot.ensures ∙ c.if-asks_hot.true) (sym b.kept.counted.hot ∙ c.if-self-eq0.true)

pub returns-else-self-eq0-clause-exact : goal.returns-else-self-eq0-clause-exact
returns-else-self-eq0-clause-exact c =
    let b = c.args.self.now in
    asked_hot (state_of b) b.ring.cells c.front.result c.first_hot.result.entry refl (sym c.asks_hot.ensures ∙ c.if-asks_hot.true) c.front.ensures c.first_hot.ensures.first

pub returns-else-asks_hot-clause-exact : goal.returns-else-asks_hot-clause-exact
returns-else-asks_hot-clause-exact c =
    let b = c.args.self.now in
    let some = some_cold (state_of b) (sym c.asks_hot.ensures ∙ c.if-asks_hot.false) in
    asked_cold (state_of b) b.ring.cells b.cold_hand c.first_cold.result.entry refl refl (sym c.asks_hot.ensures ∙ c.if-asks_hot.false) b.kept.whole.apart b.kept.whole.distinct
    (rests_there b.ring.cells b.cold_hand (some_cells (λ e. is_cold e.kind) b.ring.cells some) b.kept.whole.cold_rests) c.first_cold.ensures.first
