-- An event that brings pages in, or none.
use Rattle.std.proofs.Common.{inr, sym, ◌∙◌}
use Rattle.serial_driver.proofs.Bringing.{gives_up, gives_up_after, no_memory, paging_waits}
use Rattle.serial_driver.specs.TurnsDuty.{duty_of}
use Rattle.serial_driver.proofs.GivingUp.{ending_gives_up, paging_on, refused_gives_up}
use Rattle.serial_driver.proofs.Limited.{plays_one}
use Rattle.serial_driver.proofs.serving.bring.Goals as goal

pub returns-then-not-is_paging-clause-goes : goal.returns-then-not-is_paging-clause-goes
returns-then-not-is_paging-clause-goes g c = gives_up g.S.SwapSlot.content g.S.SwapSlot.honest g.S.SwapSlot.failures c.args.process c.args.hart c.args.core.now

pub returns-then-is_out_of_memory-clause-goes : goal.returns-then-is_out_of_memory-clause-goes
returns-then-is_out_of_memory-clause-goes g c =
    no_memory g.S.SwapSlot.content g.S.SwapSlot.honest g.S.SwapSlot.failures c.args.process c.args.hart c.args.event _ c.args.core.now c.happen-reply.new.core (inr (sym c.is_paging.ensures ∙ c.if-not-is_paging.false)) (sym c.is_out_of_memory.ensures ∙ c.if-is_out_of_memory.true) c.happen-reply.ensures.happens

pub returns-then-is_served-clause-goes : goal.returns-then-is_served-clause-goes
returns-then-is_served-clause-goes g c =
    paging_waits g.S.SwapSlot.content g.S.SwapSlot.honest g.S.SwapSlot.failures c.args.process c.args.hart c.args.event _ c.args.core.now c.happen-reply.new.core (sym c.is_paging.ensures ∙ c.if-not-is_paging.false) c.happen-reply.ensures.happens

pub returns-else-is_served-clause-goes : goal.returns-else-is_served-clause-goes
returns-else-is_served-clause-goes g c =
    gives_up_after g.S.SwapSlot.content g.S.SwapSlot.honest g.S.SwapSlot.failures c.args.process c.args.hart c.args.core.now c.happen-reply.new.core
    (paging_waits g.S.SwapSlot.content g.S.SwapSlot.honest g.S.SwapSlot.failures c.args.process c.args.hart c.args.event _ c.args.core.now c.happen-reply.new.core (sym c.is_paging.ensures ∙ c.if-not-is_paging.false) c.happen-reply.ensures.happens)

pub returns-then-not-is_paging-clause-proceeds : goal.returns-then-not-is_paging-clause-proceeds
returns-then-not-is_paging-clause-proceeds g c = λ most tried patient.
    ending_gives_up g.S.SwapSlot.content g.S.SwapSlot.honest g.S.SwapSlot.failures most tried (duty_of c.args.turns.now) c.args.patience.now.spent c.args.core.now c.args.event c.requires.owes (sym c.is_paging.ensures ∙ c.if-not-is_paging.true) c.requires.no_step c.requires.pays c.requires.in_turn

pub returns-then-is_served-clause-proceeds : goal.returns-then-is_served-clause-proceeds
returns-then-is_served-clause-proceeds g c = λ most tried patient.
    paging_on g.S.SwapSlot.content g.S.SwapSlot.honest g.S.SwapSlot.failures most c.args.process c.args.hart tried _ _ c.args.patience.now.spent c.args.core.now c.happen-reply.new.core c.happen-reply.new.patience c.args.event _ c.happen-reply.ensures.happens.applies
    c.requires.unlimited (c.happen-reply.ensures.tries most tried patient) (c.happen-reply.ensures.spent most tried patient) c.requires.pays c.requires.in_turn c.happen-reply.ensures.owes (sym c.is_paging.ensures ∙ c.if-not-is_paging.false)
    c.requires.serving (sym c.is_out_of_memory.ensures ∙ c.if-is_out_of_memory.false)

pub returns-else-is_served-clause-proceeds : goal.returns-else-is_served-clause-proceeds
returns-else-is_served-clause-proceeds g c = λ most tried patient.
    refused_gives_up g.S.SwapSlot.content g.S.SwapSlot.honest g.S.SwapSlot.failures most tried _ c.args.patience.now.spent c.args.core.now c.happen-reply.new.core c.args.event _ c.happen-reply.ensures.happens.applies c.requires.unlimited c.requires.pays c.requires.in_turn
    (sym c.is_out_of_memory.ensures ∙ c.if-is_out_of_memory.false) (sym c.is_served.ensures ∙ c.if-is_served.false)

pub returns-then-is_out_of_memory-clause-proceeds : goal.returns-then-is_out_of_memory-clause-proceeds
returns-then-is_out_of_memory-clause-proceeds g c = λ most tried patient.
    plays_one g.S.SwapSlot.content g.S.SwapSlot.honest g.S.SwapSlot.failures most tried _ _ c.args.patience.now.spent c.args.core.now c.happen-reply.new.core c.happen-reply.new.patience c.args.event _ c.happen-reply.ensures.happens.applies
    c.requires.unlimited (c.happen-reply.ensures.tries most tried patient) (c.happen-reply.ensures.spent most tried patient) c.requires.pays c.requires.in_turn c.happen-reply.ensures.owes
