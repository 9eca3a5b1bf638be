use Rattle.std.proofs.Common.{◌∙◌, sym, arith}
use Rattle.std.specs.Vec.Iter.{into_iter_items}
use Rattle.std.proofs.lemmas.Result.{err_from_is_err_and}
use Rattle.std.proofs.lemmas.List.{nil_from_length}
use Rattle.rv_asm.proofs.FirstLoops.{labels_refuse, labels_end}
use Rattle.rv_asm.proofs.first_pass.with_labels.Goals as goal

pub returns-in_err-program-clause-refusal : goal.returns-in_err-program-clause-refusal
returns-in_err-program-clause-refusal c =
    let p = err_from_is_err_and c.from_residual.result c.from_residual.ensures.1 in
    rw (p.1, p.2)
    (labels_refuse c.loop-name.program c.args.program c.in-Some.name (into_iter_items c.next.new.self) (into_iter_items c.loop-name.name-iterator) c.args.labels.items c.in_err-program.field-0.0
    (c.in-Some.ensures.steps.0) c.loop-name.invariant.same c.in_err-program.ensures.refusal)

pub returns-clause-program : goal.returns-clause-program
returns-clause-program c =
    sym c.loop-name.invariant.same
    ∙ labels_end c.loop-name.program (into_iter_items c.loop-name.name-iterator) (nil_from_length (into_iter_items c.loop-name.name-iterator) (let o = c.loop-name.name-iterator.rest.ok.0 in let e = c.in-None.ensures.steps.0 in omega arith))
