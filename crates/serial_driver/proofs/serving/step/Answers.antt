-- A hart's step, and what has come of it.
use Rattle.std.proofs.Common.{inl, refl, sym, ◌∙◌}
use Rattle.machine_core.specs.declared.event.Event.TheVariants.{Step}
use Rattle.serial_driver.proofs.Bringing.{gives_up_after, no_memory, step_full, step_ran, step_waits}
use Rattle.serial_driver.proofs.GivingUp.{step_gives_up, step_on}
use Rattle.serial_driver.proofs.Limited.{plays_one}
use Rattle.serial_driver.proofs.serving.step.Goals as goal

pub returns-then-has_run-clause-goes : goal.returns-then-has_run-clause-goes
returns-then-has_run-clause-goes g c = step_ran g.S.SwapSlot.content g.S.SwapSlot.honest g.S.SwapSlot.failures c.args.process c.args.hart _ c.args.core.now c.happen-reply.new.core (sym c.has_run.ensures ∙ c.if-has_run.true) c.happen-reply.ensures.happens

pub returns-then-is_full-clause-goes : goal.returns-then-is_full-clause-goes
returns-then-is_full-clause-goes g c = step_full g.S.SwapSlot.content g.S.SwapSlot.honest g.S.SwapSlot.failures c.args.process c.args.hart _ c.args.core.now c.happen-reply.new.core (sym c.is_full.ensures ∙ c.if-is_full.true) c.happen-reply.ensures.happens

pub returns-then-is_out_of_memory-clause-goes : goal.returns-then-is_out_of_memory-clause-goes
returns-then-is_out_of_memory-clause-goes g c =
    no_memory g.S.SwapSlot.content g.S.SwapSlot.honest g.S.SwapSlot.failures c.args.process c.args.hart (Step c.args.process c.args.hart) _ c.args.core.now c.happen-reply.new.core (inl refl) (sym c.is_out_of_memory.ensures ∙ c.if-is_out_of_memory.true) c.happen-reply.ensures.happens

pub returns-then-is_absent-clause-goes : goal.returns-then-is_absent-clause-goes
returns-then-is_absent-clause-goes g c = step_waits g.S.SwapSlot.content g.S.SwapSlot.honest g.S.SwapSlot.failures c.args.process c.args.hart _ c.args.core.now c.happen-reply.new.core (sym c.has_run.ensures ∙ c.if-has_run.false) c.happen-reply.ensures.happens

pub returns-else-is_absent-clause-goes : goal.returns-else-is_absent-clause-goes
returns-else-is_absent-clause-goes g c =
    gives_up_after g.S.SwapSlot.content g.S.SwapSlot.honest g.S.SwapSlot.failures c.args.process c.args.hart c.args.core.now c.happen-reply.new.core (step_waits g.S.SwapSlot.content g.S.SwapSlot.honest g.S.SwapSlot.failures c.args.process c.args.hart _ c.args.core.now c.happen-reply.new.core (sym c.has_run.ensures ∙ c.if-has_run.false) c.happen-reply.ensures.happens)

pub returns-then-is_absent-clause-proceeds : goal.returns-then-is_absent-clause-proceeds
returns-then-is_absent-clause-proceeds g c = λ most tried patient.
    step_on g.S.SwapSlot.content g.S.SwapSlot.honest g.S.SwapSlot.failures most c.args.process c.args.hart tried _ _ c.args.patience.now.spent c.args.core.now c.happen-reply.new.core c.happen-reply.new.patience _ c.happen-reply.ensures.happens.applies
    (c.happen-reply.ensures.tries most tried patient) (c.happen-reply.ensures.spent most tried patient) c.requires.pays c.requires.in_turn c.happen-reply.ensures.owes (sym c.is_absent.ensures ∙ c.if-is_absent.true)

pub returns-else-is_absent-clause-proceeds : goal.returns-else-is_absent-clause-proceeds
returns-else-is_absent-clause-proceeds g c = λ most tried patient.
    step_gives_up g.S.SwapSlot.content g.S.SwapSlot.honest g.S.SwapSlot.failures most c.args.process c.args.hart tried _ c.args.patience.now.spent c.args.core.now c.happen-reply.new.core _ c.happen-reply.ensures.happens.applies c.requires.pays c.requires.in_turn
    (sym c.has_run.ensures ∙ c.if-has_run.false) (sym c.is_full.ensures ∙ c.if-is_full.false) (sym c.is_out_of_memory.ensures ∙ c.if-is_out_of_memory.false) (sym c.is_absent.ensures ∙ c.if-is_absent.false)

pub returns-then-has_run-clause-proceeds : goal.returns-then-has_run-clause-proceeds
returns-then-has_run-clause-proceeds g c = λ most tried patient.
    plays_one g.S.SwapSlot.content g.S.SwapSlot.honest g.S.SwapSlot.failures most tried _ _ c.args.patience.now.spent c.args.core.now c.happen-reply.new.core c.happen-reply.new.patience (Step c.args.process c.args.hart) _ c.happen-reply.ensures.happens.applies
    refl (c.happen-reply.ensures.tries most tried patient) (c.happen-reply.ensures.spent most tried patient) c.requires.pays c.requires.in_turn c.happen-reply.ensures.owes

pub returns-then-is_full-clause-proceeds : goal.returns-then-is_full-clause-proceeds
returns-then-is_full-clause-proceeds g c = λ most tried patient.
    plays_one g.S.SwapSlot.content g.S.SwapSlot.honest g.S.SwapSlot.failures most tried _ _ c.args.patience.now.spent c.args.core.now c.happen-reply.new.core c.happen-reply.new.patience (Step c.args.process c.args.hart) _ c.happen-reply.ensures.happens.applies
    refl (c.happen-reply.ensures.tries most tried patient) (c.happen-reply.ensures.spent most tried patient) c.requires.pays c.requires.in_turn c.happen-reply.ensures.owes

pub returns-then-is_out_of_memory-clause-proceeds : goal.returns-then-is_out_of_memory-clause-proceeds
returns-then-is_out_of_memory-clause-proceeds g c = λ most tried patient.
    plays_one g.S.SwapSlot.content g.S.SwapSlot.honest g.S.SwapSlot.failures most tried _ _ c.args.patience.now.spent c.args.core.now c.happen-reply.new.core c.happen-reply.new.patience (Step c.args.process c.args.hart) _ c.happen-reply.ensures.happens.applies
    refl (c.happen-reply.ensures.tries most tried patient) (c.happen-reply.ensures.spent most tried patient) c.requires.pays c.requires.in_turn c.happen-reply.ensures.owes
