use Rattle.std.proofs.Common.{◌≡◌, ◌+◌, ◌-◌, ap, ◌∙◌, sym, arith}
use Rattle.rv_exec.specs.Registers.{with_pc}
use Rattle.flat_machine.specs.PlainRun.{plain_run}
use Rattle.flat_machine.proofs.PlainRunLaws.{plain_none, plain_more}
use Rattle.flat_machine.proofs.plain_run.run_words_at.Goals as goal

pub loop-left-init : goal.loop-left-init
loop-left-init c =
    let regs = with_pc c.args.regs.now c.args.pc.now in
    let none : c.args.most - c.args.most ≡ 0 = omega arith in
    record {
      ran = ap (λ n. plain_run c.args.hart n regs c.args.memory.now) none ∙ plain_none c.args.hart regs c.args.memory.now;
      within = omega arith;
    }

pub loop-left-preserved : goal.loop-left-preserved
loop-left-preserved c =
    let l = c.loop-left in
    let regs = with_pc c.args.regs.now c.args.pc.now in
    let one : c.args.most - l.left + 1 ≡ c.args.most - (l.left - 1) = omega (arith, l.invariant.within, c.loop-left-test.true) in
    record {
      ran = ap (λ n. plain_run c.args.hart n regs c.args.memory.now) (sym one)
          ∙ plain_more c.args.hart (c.args.most - l.left) regs c.args.memory.now (with_pc l.regs l.pc) l.memory
          (with_pc c.execute_at.new.regs c.execute_at.new.pc) c.execute_at.new.bus l.invariant.ran c.in-Done.ensures.line;
      within = omega (arith, l.invariant.within);
    }
