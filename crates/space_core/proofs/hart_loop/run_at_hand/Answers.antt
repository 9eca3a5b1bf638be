use Rattle.std.proofs.Common.{◌≡◌, ◌+◌, ◌-◌, sym, subst, ◌∙◌, refl, arith}
use Rattle.rv_exec.specs.Registers.{with_pc}
use Rattle.space_core.specs.HartLoop.{RunsEach}
use Rattle.space_core.proofs.StepsOn.{each_done, none_done}
use Rattle.space_core.proofs.hart_loop.run_at_hand.Goals as goal

pub loop-left-init : goal.loop-left-init
loop-left-init g c =
    let regs = with_pc c.args.regs.now c.args.pc.now in
    let memory = c.args.memory.now in
    let none : c.args.most - c.args.most ≡ 0 = omega arith in
    record {
      each =
          subst (λ n. RunsEach g.S.SwapSlot.content g.S.SwapSlot.honest c.args.hart n regs memory regs memory) (sym none)
          (none_done g.S.SwapSlot.content g.S.SwapSlot.honest c.args.hart regs memory);
      started = refl;
      within = omega arith;
    }

pub loop-left-preserved : goal.loop-left-preserved
loop-left-preserved g c =
    let l = c.loop-left in
    let regs = with_pc c.args.regs.now c.args.pc.now in
    let one = c.in-Done.ensures.ran in
    let more : c.args.most - l.left + 1 ≡ c.args.most - (l.left - 1) = omega (arith, l.invariant.within, c.loop-left-test.true) in
    record {
      each =
          subst (λ n. RunsEach g.S.SwapSlot.content g.S.SwapSlot.honest c.args.hart n regs c.args.memory.now (with_pc c.run_one.new.regs c.run_one.new.pc) c.run_one.new.memory) more
          (each_done g.S.SwapSlot.content g.S.SwapSlot.honest c.args.hart (c.args.most - l.left) regs c.args.memory.now (with_pc l.regs l.pc) l.memory
          (with_pc c.run_one.new.regs c.run_one.new.pc) c.run_one.new.memory l.invariant.each one);
      started = one.kept.harts ∙ l.invariant.started;
      within = omega (arith, l.invariant.within);
    }
