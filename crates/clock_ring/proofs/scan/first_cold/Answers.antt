use Rattle.std.proofs.Common.{sym, ◌∙◌}
use Rattle.clock_policy.specs.ClockPro.{is_cold}
use Rattle.clock_ring.proofs.ScanLaws.{scan_goes_on, scan_ends}
use Rattle.clock_ring.proofs.scan.first_cold.Goals as goal

pub returns-then-is_cold-clause-holds : goal.returns-then-is_cold-clause-holds
returns-then-is_cold-clause-holds c = (scan_ends (λ e. is_cold e.kind) c.args.ring.now.cells c.to_cold.at c.node-node.result c.len.ensures.apart c.to_cold.invariant.there c.node-node.ensures (sym c.is_cold.ensures ∙ c.if-is_cold.true)).holds

pub returns-then-is_cold-clause-first : goal.returns-then-is_cold-clause-first
returns-then-is_cold-clause-first c = sym c.to_cold.invariant.same ∙ (scan_ends (λ e. is_cold e.kind) c.args.ring.now.cells c.to_cold.at c.node-node.result c.len.ensures.apart c.to_cold.invariant.there c.node-node.ensures (sym c.is_cold.ensures ∙ c.if-is_cold.true)).first

pub to_cold-smaller : goal.to_cold-smaller
to_cold-smaller c = (scan_goes_on (λ e. is_cold e.kind) c.args.ring.now.cells c.to_cold.at c.node-node.result c.len.ensures.apart c.to_cold.invariant.there c.node-node.ensures c.requires.some (sym c.is_cold.ensures ∙ c.if-is_cold.false)).nearer

pub to_cold-preserved : goal.to_cold-preserved
to_cold-preserved c =
    let step = scan_goes_on (λ e. is_cold e.kind) c.args.ring.now.cells c.to_cold.at c.node-node.result c.len.ensures.apart c.to_cold.invariant.there c.node-node.ensures c.requires.some (sym c.is_cold.ensures ∙ c.if-is_cold.false) in
    record { there = step.there; same = step.same ∙ c.to_cold.invariant.same }
