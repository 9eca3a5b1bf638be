-- Decoded instructions one after another are a plain run.
use Rattle.std.proofs.Common.{◌≡◌, ◌-◌, Some, ap, ◌∙◌, sym}
use Rattle.rv_exec.specs.Registers.{with_pc}
use Rattle.rv_exec.proofs.RegistersLaws.{own_pc}
use Rattle.flat_machine.specs.PlainRun.{plain_run}
use Rattle.flat_machine.proofs.PlainCode.{iterated}
use Rattle.flat_machine.proofs.plain_run.run_part.Goals as goal

pub returns-clause-ran : goal.returns-clause-ran
returns-clause-ran c =
    let run = c.run_decoded-ran in
    let own : with_pc c.args.regs.now c.pc.result ≡ c.args.regs.now = ap (λ p. with_pc c.args.regs.now p) c.pc.ensures ∙ own_pc c.args.regs.now in
    ap (λ r. plain_run c.args.hart (c.args.most - run.result.left) r c.args.memory.now) (sym own)
    ∙ iterated (λ _ _ _. Unit {0}) (λ _ _. Unit {0}) c.args.hart (c.args.most - run.result.left) (with_pc c.args.regs.now c.pc.result, c.args.memory.now) (with_pc run.new.regs run.result.pc, run.new.memory) run.ensures.ran
    ∙ ap (λ r. Some (r, run.new.memory)) (sym c.set_pc.ensures)
