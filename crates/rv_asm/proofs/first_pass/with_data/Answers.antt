use Rattle.std.proofs.Common.{◌∙◌, ap, sym, map, arith}
use Rattle.std.specs.Vec.Iter.{into_iter_items}
use Rattle.std.proofs.lemmas.Result.{err_from_is_err_and}
use Rattle.std.proofs.lemmas.List.{nil_from_length}
use Rattle.rv_asm.specs.declared.item.Item.TheVariants.{InData}
use Rattle.rv_asm.proofs.FirstLoops.{items_refuse, items_end}
use Rattle.rv_asm.proofs.first_pass.with_data.Goals as goal

pub returns-in_err-program-clause-refusal : goal.returns-in_err-program-clause-refusal
returns-in_err-program-clause-refusal c =
    let p = err_from_is_err_and c.from_residual.result c.from_residual.ensures.1 in
    rw (p.1, p.2)
    (items_refuse c.loop-datum.program c.args.program (InData c.args.line c.in-Some.datum) (map (InData c.args.line) (into_iter_items c.next.new.self)) (map (InData c.args.line) (into_iter_items c.loop-datum.datum-iterator)) (map (InData c.args.line) c.args.parts.items) c.in_err-program.field-0.0
    (ap (map (InData c.args.line)) (c.in-Some.ensures.steps.0)) c.loop-datum.invariant.same c.in_err-program.ensures.refusal)

pub returns-clause-program : goal.returns-clause-program
returns-clause-program c =
    sym c.loop-datum.invariant.same
    ∙ items_end c.loop-datum.program (map (InData c.args.line) (into_iter_items c.loop-datum.datum-iterator)) (ap (map (InData c.args.line)) (nil_from_length (into_iter_items c.loop-datum.datum-iterator) (let o = c.loop-datum.datum-iterator.rest.ok.0 in let e = c.in-None.ensures.steps.0 in omega arith)))
