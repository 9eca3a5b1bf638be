use Rattle.std.specs.Prelude.{◌∷◌, ◌++◌}
use Rattle.std.proofs.Common.{sym, ap, ◌∙◌}
use Rattle.clock_policy.specs.declared.entry.Entry.{Entry}
use Rattle.clock_policy.specs.declared.entry.EntryKind.{EntryKind}
use Rattle.page_ring.specs.Chain.{Chain, of_kind}
use Rattle.clock_ring.specs.RingState.{ended_kind}
use Rattle.clock_ring.proofs.TrimLaws.{kept_kind, ended_test, cell_entry}
use Rattle.clock_ring.proofs.body.Body.end_test.Goals as goal

pub returns-then-is_in_test-clause-cells : goal.returns-then-is_in_test-clause-cells
returns-then-is_in_test-clause-cells c = λ u v d parts is.
    let b = c.args.self.now in
    let kind = ap (λ (e : Entry). ended_kind e.kind) (cell_entry b.ring.cells u v d c.args.passed.at c.args.passed.entry b.kept.whole.apart c.requires.holds parts is) in
    ap (λ (r : Chain). r.cells) c.fall.ensures.same
    ∙ c.mark.ensures.cells u v d parts is
    ∙ ap (λ (k : EntryKind). u ++ of_kind k d ∷ v) (sym (kind ∙ ended_test c.args.passed.entry.kind c.requires.resident (sym c.is_in_test.ensures ∙ c.if-is_in_test.true)))

pub returns-else-is_in_test-clause-cells : goal.returns-else-is_in_test-clause-cells
returns-else-is_in_test-clause-cells c = λ u v d parts is.
    let b = c.args.self.now in
    let same = cell_entry b.ring.cells u v d c.args.passed.at c.args.passed.entry b.kept.whole.apart c.requires.holds parts is in
    parts
    ∙ ap (λ (k : EntryKind). u ++ of_kind k d ∷ v) (ap (λ (e : Entry). e.kind) same ∙ sym (ap (λ (e : Entry). ended_kind e.kind) same ∙ kept_kind c.args.passed.entry.kind c.requires.resident (sym c.is_in_test.ensures ∙ c.if-is_in_test.false)))
