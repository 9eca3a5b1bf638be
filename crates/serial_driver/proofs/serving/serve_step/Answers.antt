-- Pages are brought in by one event after another, until the instruction is settled.
use Rattle.std.proofs.Common.{◌≡◌, ◌+◌, ◌-◌, ◌*◌, ◌^◌, ℕ, Some, None, arith, ap, inl, inr, refl, subst, sym}
use Rattle.serial_driver.specs.Owing.{Duty}
use Rattle.serial_driver.specs.Patience.{tried_after, tries_per_frame, IsPatient}
use Rattle.serial_driver.specs.Serving.{owes_pages, serving, IsServing, Proceeds}
use Rattle.serial_driver.specs.TurnsDuty.{duty_of}
use Rattle.serial_driver.specs.declared.serving.ServedStep.{ServedStep}
use Rattle.serial_driver.proofs.Bringing.{brings_none, brings_on, serves_on}
use Rattle.serial_driver.proofs.GivingUp.{gives_behind, plays_settled}
use Rattle.serial_driver.proofs.Limited.{plays_more, plays_none}
use Rattle.serial_driver.proofs.serving.serve_step.Goals as goal

pub events-init : goal.events-init
events-init g c = record {
  brings = brings_none g.S.SwapSlot.content g.S.SwapSlot.honest g.S.SwapSlot.failures c.args.process c.args.hart c.args.core.now;
  own = subst (λ (d : Duty). IsServing c.args.process c.args.hart d.turn) (sym c.at-turns.ensures) (record { process_is = refl; hart_is = refl; lasts = tt {0} });
  owes = ap (λ (d : Duty). owes_pages d.owed) c.at-turns.ensures;
  plays = (
    0,
    (
      refl,
      plays_none g.S.SwapSlot.content g.S.SwapSlot.honest g.S.SwapSlot.failures (tries_per_frame * c.args.core.now.pager.pager.size) (λ _. 0) (serving c.args.process c.args.hart) (duty_of c.at-turns.result) None c.args.core.now c.new-patience.result
          (subst (λ (n : ℕ). IsPatient (tries_per_frame * n) (λ _. 0) c.new-patience.result) c.size.ensures c.new-patience.ensures.tries) c.new-patience.ensures.spent c.at-turns.ensures,
    ),
  );
}

pub events-preserved : goal.events-preserved
events-preserved g c =
    let before = c.events.invariant.plays.1.1 in
    let sum = c.events.invariant.plays.1.0 in
    let after = c.in-None.ensures.proceeds (tries_per_frame * c.args.core.now.pager.pager.size) (λ number. tried_after number before.plays.events before.plays.replies 0) before.patient in
    record {
      brings = brings_on g.S.SwapSlot.content g.S.SwapSlot.honest g.S.SwapSlot.failures c.args.process c.args.hart c.args.core.now c.events.core c.serve_next.new.core c.events.invariant.brings c.in-None.ensures.goes;
      own = after.1.0;
      owes = after.1.1;
      plays = (
        c.events.invariant.plays.0 + 1,
        (
          omega (arith, sum, c.events-test.true),
          plays_more g.S.SwapSlot.content g.S.SwapSlot.honest g.S.SwapSlot.failures _ _ _ _ _ _ c.events.invariant.plays.0 1 _ c.args.core.now c.events.core c.serve_next.new.core c.events.patience c.serve_next.new.patience before after.0 refl,
        ),
      );
    }

pub returns-in-Some-clause-serves : goal.returns-in-Some-clause-serves
returns-in-Some-clause-serves g c =
    serves_on g.S.SwapSlot.content g.S.SwapSlot.honest g.S.SwapSlot.failures c.args.process c.args.hart c.in-Some.served c.args.core.now c.events.core c.serve_next.new.core c.events.invariant.brings c.in-Some.ensures.goes

pub returns-in-Some-clause-given_up : goal.returns-in-Some-clause-given_up
returns-in-Some-clause-given_up g c absent =
    let most : ℕ = tries_per_frame * c.args.core.now.pager.pager.size in
    let before = c.events.invariant.plays.1.1 in
    let tried : ℕ → ℕ = λ number. tried_after number before.plays.events before.plays.replies 0 in
    let after =
    subst (λ (s : ServedStep). Proceeds g.S.SwapSlot.content g.S.SwapSlot.honest g.S.SwapSlot.failures c.args.process c.args.hart (Some s) most tried (duty_of c.events.turns) c.events.patience.spent c.events.core c.serve_next.new.core c.serve_next.new.patience (duty_of c.serve_next.new.turns)) absent
    (c.in-Some.ensures.proceeds most tried before.patient) in
    inl (gives_behind g.S.SwapSlot.content g.S.SwapSlot.honest g.S.SwapSlot.failures most (λ _. 0) _ _ None c.events.invariant.plays.0 c.args.core.now c.events.core c.serve_next.new.core c.events.patience before after)

pub returns-clause-given_up : goal.returns-clause-given_up
returns-clause-given_up g c absent =
    let sum = c.events.invariant.plays.1.0 in
    let all : c.events.invariant.plays.0 ≡ 2 ^ 64 - 1 = omega (arith, sum, c.events-test.false) in
    inr (record { count = c.events.invariant.plays.0; plays = c.events.invariant.plays.1.1.plays }, ap (λ n. n + 1) all)

pub returns-in-Some-clause-plays : goal.returns-in-Some-clause-plays
returns-in-Some-clause-plays g c =
    let most : ℕ = tries_per_frame * c.args.core.now.pager.pager.size in
    let before = c.events.invariant.plays.1.1 in
    let tried : ℕ → ℕ = λ number. tried_after number before.plays.events before.plays.replies 0 in
    plays_settled g.S.SwapSlot.content g.S.SwapSlot.honest g.S.SwapSlot.failures most c.args.process c.args.hart c.in-Some.served (λ _. 0) _ _ (duty_of c.serve_next.new.turns) None c.events.invariant.plays.0 c.args.core.now c.events.core c.serve_next.new.core c.events.patience
    c.serve_next.new.patience before (c.in-Some.ensures.proceeds most tried before.patient)

pub returns-clause-plays : goal.returns-clause-plays
returns-clause-plays g c = record { count = c.events.invariant.plays.0; plays = c.events.invariant.plays.1.1.plays }
