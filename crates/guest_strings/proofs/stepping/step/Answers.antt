use Rattle.guest_strings.proofs.Staying.{stays_ended, stays_unlive}
use Rattle.guest_strings.proofs.stepping.step.Goals as goal

pub returns-in-Err-Ended-clause-moved : goal.returns-in-Err-Ended-clause-moved
returns-in-Err-Ended-clause-moved c =
    stays_ended c.args.hart c.args.process.now c.step.new.self (rw c.in-Err-Ended.field-0-is at c.in-Err-Ended.ensures.refused) c.in-Err-Ended.ensures.err

pub returns-in-Err-NoHart-clause-moved : goal.returns-in-Err-NoHart-clause-moved
returns-in-Err-NoHart-clause-moved c =
    stays_unlive c.args.hart c.args.process.now c.step.new.self (rw c.in-Err-NoHart.field-0-is at c.in-Err-NoHart.ensures.refused).1 c.in-Err-NoHart.ensures.err
