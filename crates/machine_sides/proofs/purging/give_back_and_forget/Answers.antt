-- The pages give back what they have, and then the list forgets them.
use Rattle.std.proofs.Common.{sym, ◌∙◌}
use Rattle.machine_sides.proofs.PurgeLaws.{unbarred, some_ended, gave_told}
use Rattle.machine_sides.proofs.purging.give_back_and_forget.Goals as goal

pub give_all_back-requires-clause-ended : goal.give_all_back-requires-clause-ended
give_all_back-requires-clause-ended g c =
    some_ended c.args.process.now.running.ending (unbarred c.args.process.now (sym c.purge_bars.ensures ∙ c.in_default.is)).0

pub returns : goal.returns
returns g c =
    gave_told _ c.args.pager.now c.args.process.now c.mark_purged.new.self c.args.slots.now c.give_all_back.new.slots c.give_all_back.new.pager c.purge.new.self c.give_all_back.new.space c.process.result
    c.pager.view_is (sym c.purge_bars.ensures ∙ c.in_default.is) c.give_all_back.ensures c.process.ensures c.purge.ensures.moved c.mark_purged.ensures
