use Rattle.std.proofs.Common.{◌∙◌, ap, sym, subst}
use Rattle.std.proofs.lemmas.Result.{err_from_is_err_and}
use Rattle.rv_asm.specs.Steps.{Fails}
use Rattle.rv_asm.specs.FirstPass.{first_pass}
use Rattle.rv_asm.proofs.Whole.{first_refuses, no_text, second_refuses, both_passes_list, some_text}
use Rattle.rv_asm.proofs.assembling.assemble_in_passes.Goals as goal

pub returns-in_err-program-clause-refusal : goal.returns-in_err-program-clause-refusal
returns-in_err-program-clause-refusal c =
    let p = err_from_is_err_and c.from_residual.result c.from_residual.ensures.1 in
    rw (p.1, p.2)
    (first_refuses c.args.source.now c.in_err-program.field-0.0 (subst (λ s. Fails (first_pass s) c.in_err-program.field-0.0) c.as_bytes.ensures.value c.in_err-program.ensures.refusal))

pub returns-then-has_no_text-clause-refusal : goal.returns-then-has_no_text-clause-refusal
returns-then-has_no_text-clause-refusal c =
    no_text c.args.source.now c.in_ok-program.program (ap first_pass (sym c.as_bytes.ensures.value) ∙ c.in_ok-program.ensures.program) (sym c.has_no_text.ensures ∙ c.if-has_no_text.true)

pub returns-in_err-sections-clause-refusal : goal.returns-in_err-sections-clause-refusal
returns-in_err-sections-clause-refusal c =
    let p = err_from_is_err_and c.from_residual-in_err-sections.result c.from_residual-in_err-sections.ensures.1 in
    rw (p.1, p.2)
    (second_refuses c.args.source.now c.in_ok-program.program c.in_err-sections.field-0.0 (ap first_pass (sym c.as_bytes.ensures.value) ∙ c.in_ok-program.ensures.program) (sym c.has_no_text.ensures ∙ c.if-has_no_text.false) c.in_err-sections.ensures.refusal)

pub make_listing-requires-clause-some : goal.make_listing-requires-clause-some
make_listing-requires-clause-some c = some_text c.in_ok-program.program.items (sym c.has_no_text.ensures ∙ c.if-has_no_text.false)

pub returns-clause-listing : goal.returns-clause-listing
returns-clause-listing c =
    both_passes_list c.args.source.now c.in_ok-program.program c.in_ok-sections.sections c.in_ok-make_listing.field-0 (ap first_pass (sym c.as_bytes.ensures.value) ∙ c.in_ok-program.ensures.program) (sym c.has_no_text.ensures ∙ c.if-has_no_text.false) c.in_ok-sections.ensures.sections c.in_ok-make_listing.ensures
