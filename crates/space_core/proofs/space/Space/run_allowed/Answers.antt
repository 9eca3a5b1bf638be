use Rattle.std.proofs.Common.{List, inr, min, sym, ap, ◌∙◌, true≢false}
use Rattle.flat_machine.specs.declared.schedule.Turn.{Turn}
use Rattle.flat_machine.specs.Schedule.{room}
use Rattle.space_core.proofs.StepsOn.{no_steps, all_or_full}
use Rattle.space_core.proofs.space.Space.run_allowed.Goals as goal

pub returns-then-allowed-eq0-clause-each : goal.returns-then-allowed-eq0-clause-each
returns-then-allowed-eq0-clause-each g c = no_steps g.S.SwapSlot.content g.S.SwapSlot.honest c.args.hart c.args.self.now

pub returns-then-not-may_step-clause-each : goal.returns-then-not-may_step-clause-each
returns-then-not-may_step-clause-each g c = no_steps g.S.SwapSlot.content g.S.SwapSlot.honest c.args.hart c.args.self.now

pub returns-then-not-may_step-clause-all : goal.returns-then-not-may_step-clause-all
returns-then-not-may_step-clause-all g c = inr (λ may. absurd (true≢false (sym may ∙ sym c.may_step.ensures ∙ c.if-not-may_step.true)))

pub run-requires-clause-may : goal.run-requires-clause-may
run-requires-clause-may g c = sym c.may_step.ensures ∙ c.if-not-may_step.false

pub returns-clause-all : goal.returns-clause-all
returns-clause-all g c =
    all_or_full g.S.SwapSlot.content g.S.SwapSlot.honest c.args.hart c.run.result.ran c.args.most c.least-allowed.result c.run.result.last c.args.self.now c.run.new.self
    (c.least-allowed.ensures ∙ ap (min c.args.most) (c.room.ensures.room ∙ ap (λ (turns : List Turn). room turns c.args.hart) c.schedule.ensures)) c.run.ensures.all c.run.ensures.each
