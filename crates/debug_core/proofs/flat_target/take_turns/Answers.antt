use Rattle.std.proofs.Common.{◌≡◌, ◌<◌, ◌+◌, [], Some, None, is_some, false, ap, ◌∙◌, sym, subst, inl, inr, arith}
use Rattle.std.proofs.lemmas.Bool.Decides.{eqb_tells}
use Rattle.std.proofs.lemmas.Result.{err_from_is_err_and}
use Rattle.flat_machine.proofs.RunLaws.{by_turns_none}
use Rattle.flat_machine.proofs.StepLaws.{may_step_when_live, not_ended}
use Rattle.debug_core.specs.Debugging.{first_moment}
use Rattle.debug_core.specs.Limits.{lacks_none}
use Rattle.debug_core.specs.Stops.{last_hart, Moment, Passes, WantsAfter}
use Rattle.debug_core.proofs.AtOnce.{last_turn, passes_turns, turn_more, wants_turn}
use Rattle.debug_core.proofs.Passing.{last_of_more, last_of_none}
use Rattle.debug_core.proofs.flat_target.take_turns.Goals as goal

pub returns-then-most-eq0-clause-passed : goal.returns-then-most-eq0-clause-passed
returns-then-most-eq0-clause-passed c = passes_turns c.args.most 0 c.args.turn.now c.args.turn.now c.args.process.now c.args.process.now (omega arith) (by_turns_none c.args.turn.now c.args.process.now)

pub returns-then-most-eq0-clause-last : goal.returns-then-most-eq0-clause-last
returns-then-most-eq0-clause-last c = last_of_none (first_moment c.args.process.now c.args.turn.now)

pub returns-in_err-steps-clause-wants : goal.returns-in_err-steps-clause-wants
returns-in_err-steps-clause-wants c =
    let fewer = c.in_err-steps.ensures.memory.0 in
    let steps = c.in_err-steps.field-0.0.steps in
    let at = c.in_err-steps.ensures.memory.1 in
    let passes = passes_turns c.args.most steps c.args.turn.now c.run_turns.new.turn c.args.process.now c.run_turns.new.self (omega arith) at.ran in
    let p = err_from_is_err_and c.from_residual.result c.from_residual.ensures.1 in
    rw (p.1, p.2) (wants_turn c.args.process.now c.args.most steps c.args.turn.now c.run_turns.new.turn c.args.process.now c.run_turns.new.self passes at.wants.may (omega arith))

pub returns-then-is_some-clause-passed : goal.returns-then-is_some-clause-passed
returns-then-is_some-clause-passed c =
    let within = c.in_ok-steps.ensures.within in
    passes_turns c.args.most c.in_ok-steps.steps c.args.turn.now c.run_turns.new.turn c.args.process.now c.run_turns.new.self (omega arith) c.in_ok-steps.ensures.ran

pub returns-then-is_some-clause-last : goal.returns-then-is_some-clause-last
returns-then-is_some-clause-last c =
    let within = c.in_ok-steps.ensures.within in
    let passes = passes_turns c.args.most c.in_ok-steps.steps c.args.turn.now c.run_turns.new.turn c.args.process.now c.run_turns.new.self (omega arith) c.in_ok-steps.ensures.ran in
    elim (eqb_tells c.in_ok-steps.steps 0) [
      | inl none ↦
          ap (λ k. last_hart k (first_moment c.args.process.now c.args.turn.now)) none.1 ∙ last_of_none (first_moment c.args.process.now c.args.turn.now)
          ∙ ap Some (sym (c.last_of-last.ensures.none none.1))
      | inr some ↦
          let more : 0 < c.in_ok-steps.steps = let differs = some.1 in omega arith in
          let last = last_turn c.args.most c.in_ok-steps.steps c.args.turn.now c.run_turns.new.turn c.args.process.now c.run_turns.new.self passes more (ap is_some (sym c.end.ensures) ∙ sym c.is_some.ensures ∙ c.if-is_some.true) in
          last.last ∙ ap Some (sym (c.last_of-last.ensures.some last.hart more last.lives last.is))
    ]

pub returns-in-Ok-clause-passed : goal.returns-in-Ok-clause-passed
returns-in-Ok-clause-passed c =
    let within = c.in_ok-steps.ensures.within in
    let passes = passes_turns c.args.most c.in_ok-steps.steps c.args.turn.now c.run_turns.new.turn c.args.process.now c.run_turns.new.self (omega arith) c.in_ok-steps.ensures.ran in
    let now : Moment = record { process = c.run_turns.new.self; turn = c.run_turns.new.turn; was = passes.was; alone = false } in
    record {
      was = c.run_turns.new.self.memory;
      passes = subst (λ turn. Passes lacks_none [] c.args.most (c.in_ok-steps.steps + 1) (first_moment c.args.process.now c.args.turn.now) (record { process = c.step.new.self; turn = turn; was = c.run_turns.new.self.memory; alone = false }))
          (sym c.turn_after.ensures.turn)
          (turn_more c.args.most c.in_ok-steps.steps (first_moment c.args.process.now c.args.turn.now) now c.step.new.self passes.passes (omega (arith, within, c.if-most-eq0.false)) c.in-Ok.ensures.ok);
    }

pub returns-in-Ok-clause-last : goal.returns-in-Ok-clause-last
returns-in-Ok-clause-last c =
    let within = c.in_ok-steps.ensures.within in
    let passes = passes_turns c.args.most c.in_ok-steps.steps c.args.turn.now c.run_turns.new.turn c.args.process.now c.run_turns.new.self (omega arith) c.in_ok-steps.ensures.ran in
    last_of_more c.in_ok-steps.steps (first_moment c.args.process.now c.args.turn.now) (record { process = c.run_turns.new.self; turn = c.run_turns.new.turn; was = passes.was; alone = false }) passes.passes.reached

pub returns-in-Err-clause-wants : goal.returns-in-Err-clause-wants
returns-in-Err-clause-wants c =
    let within = c.in_ok-steps.ensures.within in
    let passes = passes_turns c.args.most c.in_ok-steps.steps c.args.turn.now c.run_turns.new.turn c.args.process.now c.run_turns.new.self (omega arith) c.in_ok-steps.ensures.ran in
    let goes : c.run_turns.new.self.ending ≡ None = not_ended c.run_turns.new.self.ending (ap is_some (sym c.end.ensures) ∙ sym c.is_some.ensures ∙ c.if-is_some.false) in
    let may = may_step_when_live c.run_turns.new.turn c.run_turns.new.self goes c.run_turns.ensures.live in
    subst (WantsAfter (λ _. lacks_none) c.args.process.now [] c.args.most c.in_ok-steps.steps (first_moment c.args.process.now c.args.turn.now) c.run_turns.new.turn) (sym c.in-Err.ensures.err)
    (wants_turn c.args.process.now c.args.most c.in_ok-steps.steps c.args.turn.now c.run_turns.new.turn c.args.process.now c.run_turns.new.self passes may (omega (arith, within, c.if-most-eq0.false)))
