-- Where nothing is owed, an event that ends no process may come.
use Rattle.std.proofs.Common.{ap, ◌∙◌}
use Rattle.serial_driver.specs.TurnsDuty.{duty_of, phase_of, stage_owes, turn_of}
use Rattle.serial_driver.proofs.Next.{ordinary_next, steps_next, may_run, may_begin, may_rest}
use Rattle.serial_driver.proofs.turns.Turns.next.Goals as goal

pub returns-in-Run-clause-next : goal.returns-in-Run-clause-next
returns-in-Run-clause-next g c = λ spent all.
    steps_next g.S.SwapSlot.honest c.args.core.now _ _ c.args.allowed c.steps.result spent (duty_of c.args.self.now) c.steps.ensures (all ∙ ap stage_owes c.in-Run.is) (may_run g.S.SwapSlot.honest c.args.core.now c.args.self.now c.in-Run.is)

pub returns-in-Choose-clause-next : goal.returns-in-Choose-clause-next
returns-in-Choose-clause-next g c = λ spent all.
    steps_next g.S.SwapSlot.honest c.args.core.now _ _ c.args.allowed c.steps-in-Choose.result spent (duty_of c.args.self.now) c.steps-in-Choose.ensures (all ∙ ap stage_owes c.in-Choose.is)
    (may_begin g.S.SwapSlot.honest c.args.core.now c.args.self.now _ _ _ c.in-Choose.is c.in_ok-next-in-Choose.ensures.some)

pub returns-in-Rest-clause-next : goal.returns-in-Rest-clause-next
returns-in-Rest-clause-next g c = λ spent all.
    ordinary_next g.S.SwapSlot.honest c.args.core.now c.args.allowed c.notice-event.result c.requires spent (duty_of c.args.self.now) (may_rest g.S.SwapSlot.honest c.args.core.now c.args.self.now c.notice-event.result c.in-Rest.is c.notice-event.ensures)
    (all ∙ ap stage_owes c.in-Rest.is)

pub returns-in-Wait-clause-next : goal.returns-in-Wait-clause-next
returns-in-Wait-clause-next g c = λ spent all.
    ordinary_next g.S.SwapSlot.honest c.args.core.now c.args.allowed c.bring-event.result c.requires spent (duty_of c.args.self.now) (c.bring-event.ensures.ordinary (ap phase_of c.in-Wait.is)) (all ∙ ap stage_owes c.in-Wait.is)

pub returns-in-Clear-clause-next : goal.returns-in-Clear-clause-next
returns-in-Clear-clause-next g c = λ spent all.
    ordinary_next g.S.SwapSlot.honest c.args.core.now c.args.allowed c.clear-event.result c.requires spent (duty_of c.args.self.now) (c.clear-event.ensures.ordinary (turn_of c.args.self.now) (ap phase_of c.in-Clear.is)) (all ∙ ap stage_owes c.in-Clear.is)
