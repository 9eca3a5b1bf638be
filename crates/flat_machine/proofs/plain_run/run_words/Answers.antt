-- The pc that was taken out is the registers' own, and the one that is written back is the last.
use Rattle.std.proofs.Common.{◌≡◌, ◌-◌, Some, ap, ◌∙◌, sym, subst}
use Rattle.rv_exec.specs.Line.{line}
use Rattle.rv_exec.specs.Registers.{with_pc}
use Rattle.rv_exec.proofs.RegistersLaws.{own_pc}
use Rattle.flat_machine.specs.PlainRun.{plain_run, StopsAs}
use Rattle.flat_machine.proofs.plain_run.run_words.Goals as goal

pub returns-clause-ran : goal.returns-clause-ran
returns-clause-ran c =
    let run = c.run_words_at-halt in
    let own : with_pc c.args.regs.now c.pc-pc.result ≡ c.args.regs.now = ap (λ p. with_pc c.args.regs.now p) c.pc-pc.ensures ∙ own_pc c.args.regs.now in
    ap (λ r. plain_run c.args.hart (c.args.most - run.result.left) r c.args.memory.now) (sym own) ∙ run.ensures.ran ∙ ap (λ r. Some (r, run.new.memory)) (sym c.set_pc.ensures)

pub returns-clause-stopped : goal.returns-clause-stopped
returns-clause-stopped c = λ some.
    let run = c.run_words_at-halt in subst (λ r. StopsAs run.result.last (line c.args.hart r run.new.memory)) (sym c.set_pc.ensures) (run.ensures.stopped some)
