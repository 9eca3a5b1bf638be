-- Decoded instructions one after another are the hart's.
use Rattle.std.proofs.Common.{◌≡◌, ◌-◌, sym, ap, ◌∙◌, subst}
use Rattle.rv_exec.specs.Registers.{with_pc}
use Rattle.rv_exec.proofs.RegistersLaws.{own_pc}
use Rattle.space_core.specs.HartLoop.{RunsEach}
use Rattle.space_core.proofs.DecodedRuns.{decoded_each}
use Rattle.space_core.proofs.hart_loop.run_part.Goals as goal

pub returns-clause-each : goal.returns-clause-each
returns-clause-each g c =
    let run = c.run_decoded-ran in
    let now = c.coherent.ensures in
    let own : with_pc c.args.regs.now c.pc.result ≡ c.args.regs.now = ap (λ p. with_pc c.args.regs.now p) c.pc.ensures ∙ own_pc c.args.regs.now in
    subst (λ r. RunsEach g.S.SwapSlot.content g.S.SwapSlot.honest c.args.hart (c.args.most - run.result.left) c.args.regs.now c.args.memory.now r run.new.memory) (sym c.set_pc.ensures)
    (subst (λ r. RunsEach g.S.SwapSlot.content g.S.SwapSlot.honest c.args.hart (c.args.most - run.result.left) r c.args.memory.now (with_pc run.new.regs run.result.pc) run.new.memory) own
    (decoded_each g.S.SwapSlot.content g.S.SwapSlot.honest c.args.hart (c.args.most - run.result.left) (with_pc c.args.regs.now c.pc.result, c.args.memory.now) (with_pc run.new.regs run.result.pc, run.new.memory) run.ensures.ran
    (record { agree = now.agree; accessed = now.accessed; framed = now.framed; unmarked = now.unmarked; walks = now.walks })))
