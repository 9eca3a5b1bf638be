use Rattle.std.proofs.Common.{ap, ◌∙◌, sym}
use Rattle.std.specs.Prelude.{is_some}
use Rattle.rv_asm.specs.Program.{label_place, size}
use Rattle.rv_asm.specs.FirstPass.{Progress}
use Rattle.rv_asm.proofs.Places.{counted_label}
use Rattle.rv_asm.proofs.FirstSteps.{label_twice, label_added, none_unless_some}
use Rattle.rv_asm.proofs.program.Program.with_label.Goals as goal

pub returns-then-is_some-clause-refusal : goal.returns-then-is_some-clause-refusal
returns-then-is_some-clause-refusal c =
    let found = c.place.ensures.place ∙ ap (label_place c.args.self.items) c.bytes.ensures in
    label_twice c.args.self c.args.name (ap is_some (sym found) ∙ sym c.is_some.ensures ∙ c.if-is_some.true)

pub invariant_of-self : goal.invariant_of-self
invariant_of-self c =
    let found = c.place.ensures.place ∙ ap (label_place c.args.self.items) c.bytes.ensures in
    let none = none_unless_some (label_place c.args.self.items c.args.name) (ap is_some (sym found) ∙ sym c.is_some.ensures ∙ c.if-is_some.false) in
    let items = ap (λ (p : Progress). p.items) c.self.view_is in
    counted_label _ _ c.self.inside.section c.args.name c.bytes-2.result.now _ _ _ _ c.end-place.result c.self.invariant
    (ap (λ l. label_place l c.args.name) items ∙ none)
    (c.end-place.ensures ∙ ap (λ l. record { section = c.self.inside.section; offset = size c.self.inside.section l }) (sym items))
    c.bytes-2.ensures c.in_ok-insert.ensures.updates c.in_ok-push.ensures.items

pub returns-clause-program : goal.returns-clause-program
returns-clause-program c =
    let found = c.place.ensures.place ∙ ap (label_place c.args.self.items) c.bytes.ensures in
    label_added c.args.self c.self.inside.section _ _ c.args.name c.self.view_is (ap is_some (sym found) ∙ sym c.is_some.ensures ∙ c.if-is_some.false) c.in_ok-push.ensures.items
