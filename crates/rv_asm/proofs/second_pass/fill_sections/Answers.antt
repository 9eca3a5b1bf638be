use Rattle.std.proofs.Common.{◌∙◌, ap, sym, subst}
use Rattle.std.proofs.lemmas.Result.{err_from_is_err_and}
use Rattle.rv_asm.specs.Steps.{Fails}
use Rattle.rv_asm.specs.SecondPass.{second_pass, put}
use Rattle.rv_asm.proofs.SecondSteps.{put_refuse}
use Rattle.rv_asm.proofs.second_pass.fill_sections.Goals as goal

pub returns-in_err-sections-clause-refusal : goal.returns-in_err-sections-clause-refusal
returns-in_err-sections-clause-refusal c =
    let p = err_from_is_err_and c.from_residual.result c.from_residual.ensures.1 in
    let all = c.items-items.ensures.items in
    rw (p.1, p.2)
    (put_refuse c.items-items.result.now c.loop-item.sections c.items-items.result.now c.loop-item.item-index c.item-item.result (second_pass c.args.program.now.items) c.in_err-sections.field-0.0 c.loop-item-test.true c.item-item.is
    (c.loop-item.invariant.same ∙ ap second_pass all)
    (subst (λ l. Fails (put l c.loop-item.sections c.item-item.result) c.in_err-sections.field-0.0) (sym all) c.in_err-sections.ensures.refusal))
