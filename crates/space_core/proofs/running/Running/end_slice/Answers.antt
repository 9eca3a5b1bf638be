use Rattle.std.proofs.Common.{sym, subst}
use Rattle.space_core.specs.Endings.{EndsOne}
use Rattle.space_core.proofs.StepEnds.{took_one, took_none}
use Rattle.space_core.proofs.running.Running.end_slice.Goals as goal

pub returns-in-Ok-clause-ends : goal.returns-in-Ok-clause-ends
returns-in-Ok-clause-ends g c = λ left fits some.
    subst (λ why. EndsOne g.S.SwapSlot.content g.S.SwapSlot.honest c.args.hart fits 1 why c.args.self.now left.before c.end_step.new.self c.end_step.new.memory) (sym c.stop.ensures)
    (took_one g.S.SwapSlot.content g.S.SwapSlot.honest c.args.hart fits some c.in-Ok.progress c.args.self.now left.before c.end_step.new.self c.end_step.new.memory c.requires.may (c.in-Ok.ensures.ends left))

pub returns-in-Err-clause-ends : goal.returns-in-Err-clause-ends
returns-in-Err-clause-ends g c = λ left fits some.
    subst (λ why. EndsOne g.S.SwapSlot.content g.S.SwapSlot.honest c.args.hart fits 0 why c.args.self.now left.before c.end_step.new.self c.end_step.new.memory) (sym c.stop_before.ensures)
    (took_none g.S.SwapSlot.content g.S.SwapSlot.honest c.args.hart fits some c.in-Err.stop c.args.self.now left.before c.end_step.new.self c.end_step.new.memory c.requires.may (c.in-Err.ensures.ends left))
