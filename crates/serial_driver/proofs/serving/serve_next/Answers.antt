-- What comes next for a hart.
use Rattle.serial_driver.specs.TurnsDuty.{duty_of}
use Rattle.serial_driver.proofs.Bringing.{gives_up}
use Rattle.serial_driver.proofs.GivingUp.{event_may, over_gives_up, step_may}
use Rattle.serial_driver.proofs.serving.serve_next.Goals as goal

pub returns-in-None-clause-goes : goal.returns-in-None-clause-goes
returns-in-None-clause-goes g c = gives_up g.S.SwapSlot.content g.S.SwapSlot.honest g.S.SwapSlot.failures c.args.process c.args.hart c.args.core.now

pub returns-in-None-clause-proceeds : goal.returns-in-None-clause-proceeds
returns-in-None-clause-proceeds g c = λ most tried patient. over_gives_up g.S.SwapSlot.content g.S.SwapSlot.honest g.S.SwapSlot.failures most tried (duty_of c.args.turns.now) c.args.patience.now.spent c.args.core.now c.in-None.ensures.none

pub step-requires : goal.step-requires
step-requires g c =
    let may = step_may g.S.SwapSlot.honest c.args.core.now c.args.process c.args.hart 1 c.args.patience.now.spent (duty_of c.args.turns.now) _ _ _ _ c.in-Some-Steps.field-0-is c.in-Some-Steps.ensures.next c.requires.serving in
    record { pays = may.0; in_turn = may.1 }

pub bring-requires : goal.bring-requires
bring-requires g c =
    let may = event_may g.S.SwapSlot.honest c.args.core.now 1 c.args.patience.now.spent (duty_of c.args.turns.now) _ _ c.in-Some-Event.field-0-is c.in-Some-Event.ensures.next in
    record {
      serving = c.requires.serving;
      owes = c.requires.owes;
      unlimited = may.0;
      no_step = rw c.in-Some-Event.field-0-is at c.in-Some-Event.ensures.no_step;
      pays = may.1;
      in_turn = may.2;
    }
