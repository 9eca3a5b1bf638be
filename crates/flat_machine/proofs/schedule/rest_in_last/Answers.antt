use Rattle.std.proofs.Common.{sym}
use Rattle.flat_machine.proofs.TurnsLaws.{rest_by_same, rest_by_other, rest_by_none}
use Rattle.flat_machine.proofs.schedule.rest_in_last.Goals as goal

pub returns-then-last-hart : goal.returns-then-last-hart
returns-then-last-hart c = sym (rest_by_same c.args.turns.now c.args.hart c.in-Some.last.now (sym c.in-Some.ensures.value) c.if-last-hart.true)

pub returns-else-last-hart : goal.returns-else-last-hart
returns-else-last-hart c = sym (rest_by_other c.args.turns.now c.args.hart c.in-Some.last.now (sym c.in-Some.ensures.value) c.if-last-hart.false)

pub returns-in-None : goal.returns-in-None
returns-in-None c = sym (rest_by_none c.args.turns.now c.args.hart (sym c.in-None.ensures.value))
