use Rattle.std.proofs.Common.{sym, ◌∙◌}
use Rattle.flat_machine.proofs.StepLaws.{not_ended}
use Rattle.space_core.proofs.StepsOn.{then_refused}
use Rattle.space_core.proofs.space.Space.steps.Goals as goal

pub returns-clause-each : goal.returns-clause-each
returns-clause-each g c =
    then_refused g.S.SwapSlot.content g.S.SwapSlot.honest c.args.hart c.run_allowed-steps.result.ran c.refuse-slice.result.ran c.refuse-slice.result.stop c.run_allowed-steps.result.last c.args.self.now c.run_allowed-steps.new.self c.refuse-slice.new.self
    (not_ended _ (sym c.is_some.ensures ∙ c.if-is_some.false)) c.run_allowed-steps.ensures.each c.refuse-slice.ensures.slice
