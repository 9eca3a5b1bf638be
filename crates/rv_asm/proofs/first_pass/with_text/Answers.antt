use Rattle.std.proofs.Common.{◌∙◌, ap, sym, map, arith}
use Rattle.std.specs.Vec.Iter.{into_iter_items}
use Rattle.std.proofs.lemmas.Result.{err_from_is_err_and}
use Rattle.std.proofs.lemmas.List.{nil_from_length}
use Rattle.rv_asm.specs.declared.item.Item.TheVariants.{InText}
use Rattle.rv_asm.proofs.FirstLoops.{items_refuse, items_end}
use Rattle.rv_asm.proofs.first_pass.with_text.Goals as goal

pub returns-in_err-program-clause-refusal : goal.returns-in_err-program-clause-refusal
returns-in_err-program-clause-refusal c =
    let p = err_from_is_err_and c.from_residual.result c.from_residual.ensures.1 in
    rw (p.1, p.2)
    (items_refuse c.loop-code.program c.args.program (InText c.args.line c.in-Some.code) (map (InText c.args.line) (into_iter_items c.next.new.self)) (map (InText c.args.line) (into_iter_items c.loop-code.code-iterator)) (map (InText c.args.line) c.args.parts.items) c.in_err-program.field-0.0
    (ap (map (InText c.args.line)) (c.in-Some.ensures.steps.0)) c.loop-code.invariant.same c.in_err-program.ensures.refusal)

pub returns-clause-program : goal.returns-clause-program
returns-clause-program c =
    sym c.loop-code.invariant.same
    ∙ items_end c.loop-code.program (map (InText c.args.line) (into_iter_items c.loop-code.code-iterator)) (ap (map (InText c.args.line)) (nil_from_length (into_iter_items c.loop-code.code-iterator) (let o = c.loop-code.code-iterator.rest.ok.0 in let e = c.in-None.ensures.steps.0 in omega arith)))
