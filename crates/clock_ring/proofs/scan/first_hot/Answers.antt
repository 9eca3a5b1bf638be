use Rattle.std.proofs.Common.{sym, ◌∙◌}
use Rattle.clock_policy.specs.ClockPro.{is_hot}
use Rattle.clock_ring.proofs.ScanLaws.{scan_goes_on, scan_ends}
use Rattle.clock_ring.proofs.scan.first_hot.Goals as goal

pub returns-then-is_hot-clause-holds : goal.returns-then-is_hot-clause-holds
returns-then-is_hot-clause-holds c = (scan_ends (λ e. is_hot e.kind) c.args.ring.now.cells c.to_hot.at c.node-node.result c.len.ensures.apart c.to_hot.invariant.there c.node-node.ensures (sym c.is_hot.ensures ∙ c.if-is_hot.true)).holds

pub returns-then-is_hot-clause-first : goal.returns-then-is_hot-clause-first
returns-then-is_hot-clause-first c = sym c.to_hot.invariant.same ∙ (scan_ends (λ e. is_hot e.kind) c.args.ring.now.cells c.to_hot.at c.node-node.result c.len.ensures.apart c.to_hot.invariant.there c.node-node.ensures (sym c.is_hot.ensures ∙ c.if-is_hot.true)).first

pub to_hot-smaller : goal.to_hot-smaller
to_hot-smaller c = (scan_goes_on (λ e. is_hot e.kind) c.args.ring.now.cells c.to_hot.at c.node-node.result c.len.ensures.apart c.to_hot.invariant.there c.node-node.ensures c.requires.some (sym c.is_hot.ensures ∙ c.if-is_hot.false)).nearer

pub to_hot-preserved : goal.to_hot-preserved
to_hot-preserved c =
    let step = scan_goes_on (λ e. is_hot e.kind) c.args.ring.now.cells c.to_hot.at c.node-node.result c.len.ensures.apart c.to_hot.invariant.there c.node-node.ensures c.requires.some (sym c.is_hot.ensures ∙ c.if-is_hot.false) in
    record { there = step.there; same = step.same ∙ c.to_hot.invariant.same }
