-- So many steps.
use Rattle.std.proofs.Common.{sym, ◌∙◌}
use Rattle.serial_driver.proofs.Limited.{plays_last, plays_all}
use Rattle.serial_driver.proofs.Owed.{few_last, few_all}
use Rattle.serial_driver.proofs.Tried.{steps_spent}
use Rattle.serial_driver.proofs.serial.run.Goals as goal

pub returns-in-Some-clause-plays : goal.returns-in-Some-clause-plays
returns-in-Some-clause-plays g c = λ bound tried patient.
    plays_last g.S.SwapSlot.content g.S.SwapSlot.honest g.S.SwapSlot.failures bound tried _ _ c.args.patience.now.spent c.args.core.now c.steps-done.new.self c.heed_steps-2.new.self c.args.process c.args.hart c.steps-done.result.ran c.steps-done.result.last
    c.steps-done.ensures.runs (c.heed_steps-2.ensures.tries bound tried c.args.hart patient)
    (c.heed_steps-2.ensures.spent ∙ sym (steps_spent bound tried c.args.process c.args.hart c.steps-done.result.ran c.steps-done.result.last c.args.patience.now.spent c.args.most c.steps-done.ensures.all c.requires.some))
    c.requires.pays c.requires.in_turn (few_last _ _ _ c.args.turns.now.left _ c.in-Some.is c.steps-done.ensures.short c.requires.few) c.heed_steps.ensures _ c.in-Some.is _ c.from.ensures

pub returns-in-None-clause-plays : goal.returns-in-None-clause-plays
returns-in-None-clause-plays g c = λ bound tried patient.
    plays_all g.S.SwapSlot.content g.S.SwapSlot.honest g.S.SwapSlot.failures bound tried _ _ c.args.patience.now.spent c.args.core.now c.steps-done.new.self c.heed_steps-2.new.self c.args.process c.args.hart c.steps-done.result.ran c.steps-done.result.last
    c.steps-done.ensures.runs (c.heed_steps-2.ensures.tries bound tried c.args.hart patient)
    (c.heed_steps-2.ensures.spent ∙ sym (steps_spent bound tried c.args.process c.args.hart c.steps-done.result.ran c.steps-done.result.last c.args.patience.now.spent c.args.most c.steps-done.ensures.all c.requires.some))
    c.requires.pays c.requires.in_turn (few_all _ _ _ c.args.turns.now.left c.in-None.is c.steps-done.ensures.within c.requires.few) c.heed_steps.ensures c.in-None.is _ c.from-in-None.ensures
