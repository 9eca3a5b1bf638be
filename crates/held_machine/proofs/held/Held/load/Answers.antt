-- How far the process has come stays, and what list and process agree on is as the load says.
use Rattle.std.proofs.Common.{◌∙◌, sym, subst, OnOk, OnErr, Some, None}
use Rattle.machine_sides.specs.Agreeing.{AgreeStill}
use Rattle.machine_sides.specs.Together.{key_of}
use Rattle.pager_core.specs.Pager.{PagerState}
use Rattle.held_machine.specs.HeldValue.{HeldValue}
use Rattle.held_machine.proofs.Statuses.{either_load_leaves}
use Rattle.held_machine.proofs.held.Held.load.Goals as goal

pub invariant_of-self : goal.invariant_of-self
invariant_of-self g c = record {
  published = c.self.invariant.published;
  told = c.self.invariant.told
      ∙ sym (either_load_leaves g.S.SwapSlot.content g.S.SwapSlot.honest g.S.SwapSlot.failures c.args.admission c.self.inside.side c.load.new.space c.load.result c.load.ensures.loaded c.load.ensures.refused);
}

pub returns-clause-agree : goal.returns-clause-agree
returns-clause-agree g c =
    subst (λ (h : HeldValue _). OnOk c.load.result ((pager : PagerState) → AgreeStill (Some (key_of h.side.memory.process c.args.admission.key.vpn)) pager pager h.side c.load.new.space)) c.self.view_is c.load.ensures.agree

pub returns-clause-keeps : goal.returns-clause-keeps
returns-clause-keeps g c =
    subst (λ (h : HeldValue _). OnErr c.load.result ((pager : PagerState) → AgreeStill None pager pager h.side c.load.new.space)) c.self.view_is c.load.ensures.keeps
