use Rattle.std.proofs.Common.{◌≡◌, ◌+◌, ◌-◌, length, take, drop, ap, ◌∙◌, arith, refl, rules, length-drop, take_all}
use Rattle.std.proofs.lemmas.List.Edits.{take-paste}
use lib.Seq.{paste}
use Rattle.tlb_core.proofs.Places.{refill_same}
use Rattle.tlb_core.proofs.entries.take_front.Goals as goal

pub returns-clause-left : goal.returns-clause-left
returns-clause-left c =
    let all = c.as_mut_slice.result.now in
    let left = c.len-len.result - c.args.gone in
    let long : length all ≡ c.len-len.result = search rules in
    let same : left ≡ 0 + left = omega arith in
    let rest : length (drop c.args.gone all) ≡ left = omega (arith, length-drop c.args.gone all) in
    c.truncate.ensures.items ∙ ap (take left) (refill_same c.args.row.now.items c.copy_within.new.self _ (search rules) refl ∙ c.copy_within.ensures.after)
    ∙ ap (λ k. take k (paste all 0 (drop c.args.gone all) left)) same ∙ take-paste all 0 (drop c.args.gone all) left (omega arith) (omega arith)
    ∙ take_all left (drop c.args.gone all) (omega arith) ∙ ap (drop c.args.gone) c.as_mut_slice.ensures.value
