-- Parts by decoded instructions and parts by words are one plain run.
use Rattle.std.proofs.Common.{◌≡◌, ◌+◌, ◌-◌, ap, ◌∙◌, arith}
use Rattle.decoded_pages.proofs.Runs.{all_shown_on}
use Rattle.flat_machine.specs.PlainRun.{plain_run}
use Rattle.flat_machine.proofs.PlainRunLaws.{plain_none}
use Rattle.flat_machine.proofs.PlainCode.{plain_keeps, plain_on, parts_counted, part_within}
use Rattle.flat_machine.proofs.plain_run.run_many.Goals as goal

pub loop-left-init : goal.loop-left-init
loop-left-init c =
    let none : c.args.most - c.args.most ≡ 0 = omega arith in
    record {
      ran = ap (λ n. plain_run c.args.hart n c.args.regs.now c.args.memory.now) none ∙ plain_none c.args.hart c.args.regs.now c.args.memory.now;
      within = omega arith;
    }

pub run_part-end-requires : goal.run_part-end-requires
run_part-end-requires c =
    let l = c.loop-left in
    record { shows = all_shown_on c.args.decoded.now c.args.memory.now l.memory (plain_keeps c.args.hart (c.args.most - l.left) c.args.regs.now c.args.memory.now l.regs l.memory l.invariant.ran) c.requires.shows }

pub returns-then-halt-ne0-clause-ran : goal.returns-then-halt-ne0-clause-ran
returns-then-halt-ne0-clause-ran c =
    let l = c.loop-left in
    let part = c.run_part-end in
    let words = c.run_words-halt in
    ap (λ n. plain_run c.args.hart n c.args.regs.now c.args.memory.now)
    (parts_counted c.args.most l.left c.part_of-allowed.result part.result.left c.from-left.result c.by_words-words.result words.result.left l.invariant.within c.part_of-allowed.ensures.within part.ensures.within c.from-left.ensures c.by_words-words.ensures.within words.ensures.within)
    ∙ plain_on c.args.hart (c.args.most - l.left + (c.part_of-allowed.result - part.result.left)) (c.by_words-words.result - words.result.left) c.args.regs.now c.args.memory.now part.new.regs part.new.memory words.new.regs words.new.memory
    (plain_on c.args.hart (c.args.most - l.left) (c.part_of-allowed.result - part.result.left) c.args.regs.now c.args.memory.now l.regs l.memory part.new.regs part.new.memory l.invariant.ran part.ensures.ran)
    words.ensures.ran

pub loop-left-preserved : goal.loop-left-preserved
loop-left-preserved c =
    let l = c.loop-left in
    let part = c.run_part-end in
    let words = c.run_words-halt in
    record {
      ran = ap (λ n. plain_run c.args.hart n c.args.regs.now c.args.memory.now)
          (parts_counted c.args.most l.left c.part_of-allowed.result part.result.left c.from-left.result c.by_words-words.result words.result.left l.invariant.within c.part_of-allowed.ensures.within part.ensures.within c.from-left.ensures c.by_words-words.ensures.within words.ensures.within)
          ∙ plain_on c.args.hart (c.args.most - l.left + (c.part_of-allowed.result - part.result.left)) (c.by_words-words.result - words.result.left) c.args.regs.now c.args.memory.now part.new.regs part.new.memory words.new.regs words.new.memory
          (plain_on c.args.hart (c.args.most - l.left) (c.part_of-allowed.result - part.result.left) c.args.regs.now c.args.memory.now l.regs l.memory part.new.regs part.new.memory l.invariant.ran part.ensures.ran)
          words.ensures.ran;
      within = part_within c.args.most l.left c.from-left.result (c.by_words-words.result - words.result.left) l.invariant.within;
    }
