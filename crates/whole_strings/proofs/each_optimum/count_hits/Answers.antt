use Rattle.std.proofs.Common.{◌<◌, ◌^◌, rules, arith}
use Rattle.whole_strings.proofs.CutStackLaws.{cut_open, cut_on, cut_end, cut_stack_few, cut_count_small}
use Rattle.whole_strings.proofs.each_optimum.count_hits.Goals as goal

pub references-init : goal.references-init
references-init c = cut_open c.args.most c.new-hits.result.items c.new-stack.result.items c.args.string.now c.new-hits.ensures.items c.new-stack.ensures.items

pub restack-requires-clause-few : goal.restack-requires-clause-few
restack-requires-clause-few c = cut_stack_few c.args.most c.references.at c.references.hits.items c.references.stack.items c.args.string.now c.references.invariant

pub note_within-requires : goal.note_within-requires
note_within-requires c = λ d inside.
    let small : c.references.at < 2 ^ 63 = search rules in
    cut_count_small c.args.most c.references.at d c.references.hits.items c.references.stack.items c.args.string.now c.references.invariant small inside

pub references-preserved : goal.references-preserved
references-preserved c = cut_on c.args.most c.references.at c.next_place-next.result 0 c.in_ok-depth.depth c.references.hits.items c.note_within.new.hits.items c.references.stack.items c.restack.new.stack.items c.args.uses.now c.args.string.now
    c.requires.some c.requires.uses c.references-test.true c.next_place-next.ensures c.in_ok-depth.ensures.depth c.in_ok-note_within.ensures c.in_ok-depth.ensures.stack c.references.invariant

pub returns : goal.returns
returns c = cut_end c.args.most c.references.at c.references.hits.items c.references.stack.items c.args.uses.now c.args.string.now c.requires.uses (let past = c.references-test.false in omega (arith, past)) c.references.auto.at-end c.references.invariant
