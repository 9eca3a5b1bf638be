-- A page whose admission was taken back.
use Rattle.machine_sides.proofs.Agreements.{undone_agree}
use Rattle.machine_sides.proofs.admission.undo.Goals as goal

pub returns-clause-agree : goal.returns-clause-agree
returns-clause-agree g c = undone_agree c.args.admission.key c.args.pager.now.pager c.withdraw_and_free.new.pager.pager c.args.process.now c.withdraw_and_free.ensures.list
