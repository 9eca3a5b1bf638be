use Rattle.std.proofs.Common.{Some, ap, sym, ◌∙◌, arith}
use Rattle.flat_machine.proofs.RunLaws.{by_turns_none}
use Rattle.flat_machine.proofs.Turning.{more_turns, wants_later}
use Rattle.flat_machine.proofs.process.FlatProcess.run_turns.Goals as goal

pub loop-steps-init : goal.loop-steps-init
loop-steps-init c = record { ran = by_turns_none c.args.turn.now c.args.self.now; within = omega arith; lives = c.requires.live }

pub returns-in-Err-clause-memory : goal.returns-in-Err-clause-memory
returns-in-Err-clause-memory c =
    let fewer = c.in-Err.ensures.memory.0 in (
      omega arith,
      wants_later c.loop-steps.steps c.in-Err.stop.steps c.args.turn.now c.loop-steps.turn c.loop-steps.turn c.args.self.now c.loop-steps.self c.run_turn.new.self c.loop-steps.invariant.ran c.in-Err.ensures.memory.1,
    )

pub loop-steps-preserved : goal.loop-steps-preserved
loop-steps-preserved c =
    let most = c.in-Ok.ensures.within.1 in
    record {
      ran = more_turns c.loop-steps.steps c.in-Ok.more c.args.turn.now c.loop-steps.turn c.turn_after.result c.args.self.now c.loop-steps.self c.run_turn.new.self c.loop-steps.invariant.ran
          (c.in-Ok.ensures.ran ∙ ap (λ hart. Some (hart, c.run_turn.new.self)) (sym c.turn_after.ensures.turn));
      within = omega arith;
      lives = c.turn_after.ensures.lives;
    }
