use Rattle.std.specs.Prelude.{Some, option_map}
use Rattle.std.proofs.Common.{sym, ap, ◌∙◌}
use Rattle.clock_policy.specs.declared.entry.Entry.{Entry}
use Rattle.clock_moves.specs.declared.found.Found.{Found}
use Rattle.clock_ring.proofs.MoveLaws.{found_at}
use Rattle.clock_ring.proofs.StepLaws.{Located, located, not_located, node_entry}
use Rattle.clock_ring.proofs.handed.BodyHandedList.find.Goals as goal

pub returns-in_err-at-clause-kind : goal.returns-in_err-at-clause-kind
returns-in_err-at-clause-kind c =
    not_located c.args.key c.args.self.now.ring.cells (sym c.find.ensures ∙ c.in_err-at.was) ∙ sym (ap (option_map (λ (found : Found). found.entry.kind)) c.from_residual.ensures)

pub node-requires : goal.node-requires
node-requires c =
    let b = c.args.self.now in
    let l : Located b.ring.cells c.args.key c.in_ok-at.at = located c.args.key b.ring.cells c.in_ok-at.at b.kept.whole.apart (sym c.find.ensures ∙ c.in_ok-at.was) in
    found_at b.ring.cells c.in_ok-at.at l.entry l.holds

pub returns-clause-there : goal.returns-clause-there
returns-clause-there c =
    let b = c.args.self.now in
    let l : Located b.ring.cells c.args.key c.in_ok-at.at = located c.args.key b.ring.cells c.in_ok-at.at b.kept.whole.apart (sym c.find.ensures ∙ c.in_ok-at.was) in
    l.holds ∙ ap (λ (e : Entry). Some e) (sym (node_entry b.ring.cells c.in_ok-at.at l.entry c.node.result l.holds c.node.ensures))

pub returns-clause-key : goal.returns-clause-key
returns-clause-key c =
    let b = c.args.self.now in
    let l : Located b.ring.cells c.args.key c.in_ok-at.at = located c.args.key b.ring.cells c.in_ok-at.at b.kept.whole.apart (sym c.find.ensures ∙ c.in_ok-at.was) in
    ap (λ (e : Entry). e.key) (node_entry b.ring.cells c.in_ok-at.at l.entry c.node.result l.holds c.node.ensures) ∙ l.key

pub returns-clause-kind : goal.returns-clause-kind
returns-clause-kind c =
    let b = c.args.self.now in
    let l : Located b.ring.cells c.args.key c.in_ok-at.at = located c.args.key b.ring.cells c.in_ok-at.at b.kept.whole.apart (sym c.find.ensures ∙ c.in_ok-at.was) in
    l.kind ∙ ap (λ (e : Entry). Some e.kind) (sym (node_entry b.ring.cells c.in_ok-at.at l.entry c.node.result l.holds c.node.ensures))
