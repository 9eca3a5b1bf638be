-- The pc that was taken out is the registers' own, and the one that is written back is the last.
use Rattle.std.proofs.Common.{◌≡◌, ◌-◌, sym, ap, ◌∙◌, subst}
use Rattle.rv_exec.specs.Registers.{with_pc}
use Rattle.rv_exec.proofs.RegistersLaws.{own_pc}
use Rattle.space_core.specs.HartLoop.{RunsUntil}
use Rattle.space_core.proofs.hart_loop.run_words.Goals as goal

pub returns-clause-ran : goal.returns-clause-ran
returns-clause-ran g c =
    let run = c.run_at_hand-halt in
    let own : with_pc c.args.regs.now c.pc-pc.result ≡ c.args.regs.now = ap (λ p. with_pc c.args.regs.now p) c.pc-pc.ensures ∙ own_pc c.args.regs.now in
    subst (λ r. RunsUntil g.S.SwapSlot.content g.S.SwapSlot.honest c.args.hart c.args.most (c.args.most - run.result.left) run.result.last c.args.regs.now c.args.memory.now r run.new.memory) (sym c.set_pc.ensures)
    (subst (λ r. RunsUntil g.S.SwapSlot.content g.S.SwapSlot.honest c.args.hart c.args.most (c.args.most - run.result.left) run.result.last r c.args.memory.now (with_pc run.new.regs run.new.pc) run.new.memory) own run.ensures.ran)
