use Rattle.std.proofs.Common.{sym}
use Rattle.guest_strings.proofs.Staying.{stays_unstarted}
use Rattle.guest_strings.proofs.stepping.step_of.Goals as goal

pub returns-in_default-clause-moved : goal.returns-in_default-clause-moved
returns-in_default-clause-moved c =
    stays_unstarted c.args.hart c.args.process.now c.step_pages_of.new.process (sym c.in_default.ensures.started) c.step_pages_of.ensures.same
