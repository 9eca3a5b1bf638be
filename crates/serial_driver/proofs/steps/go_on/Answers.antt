-- As many events happened as are not left.
use Rattle.std.proofs.Common.{◌≡◌, ◌-◌, refl, arith, subst}
use Rattle.serial_driver.specs.Limit.{PlaysWith}
use Rattle.serial_driver.specs.TurnsDuty.{duty_of}
use Rattle.serial_driver.proofs.Limited.{plays_none, plays_more}
use Rattle.serial_driver.proofs.steps.go_on.Goals as goal

pub events-init : goal.events-init
events-init g c = record {
  within = omega arith;
  plays = λ bound tried patient.
      let none : 0 ≡ c.args.most - c.args.most = omega arith in
      subst (λ n. PlaysWith g.S.SwapSlot.content g.S.SwapSlot.honest g.S.SwapSlot.failures bound tried (duty_of c.args.turns.now) c.args.patience.now.spent n c.args.core.now c.args.core.now c.args.patience.now (duty_of c.args.turns.now)) none
      (plays_none g.S.SwapSlot.content g.S.SwapSlot.honest g.S.SwapSlot.failures bound tried _ _ _ c.args.core.now c.args.patience.now patient refl refl);
}

pub events-preserved : goal.events-preserved
events-preserved g c =
    let within = c.events.invariant.within in
    let few = c.act-left.ensures.within in
    let most = c.in-Some.ensures.next.1.0 in
    record {
      within = omega (arith, within);
      plays = λ bound tried patient.
          let before = c.events.invariant.plays bound tried patient in
          plays_more g.S.SwapSlot.content g.S.SwapSlot.honest g.S.SwapSlot.failures bound tried _ _ _ _ _ c.act-left.result _ c.args.core.now c.events.core c.act-left.new.core c.events.patience c.act-left.new.patience
          before (c.act-left.ensures.plays _ _ before.patient) (omega (arith, within, few, most));
    }

pub returns-in_default : goal.returns-in_default
returns-in_default g c = λ bound tried patient. record {
  count = c.args.most - c.events.left;
  plays = c.events.invariant.plays bound tried patient;
  within = omega arith;
  all = λ on. absurd (cc);
  ended = λ over. c.in_default.ensures.none;
}

pub returns : goal.returns
returns g c = λ bound tried patient.
    let none = c.events-test.false in
    let within = c.events.invariant.within in
    record {
      count = c.args.most - c.events.left;
      plays = c.events.invariant.plays bound tried patient;
      within = omega arith;
      all = λ on. omega (arith, none, within);
      ended = λ over. absurd (cc);
    }
