use Rattle.std.proofs.Common.{◌≡◌, ◌++◌, Some, length, sym, ap, ◌∙◌, subst, arith, length-append}
use Rattle.std.specs.Io.KnownBytes.{Appends}
use Rattle.flat_machine.specs.Process.{Process}
use Rattle.flat_machine.specs.ByTurns.{first_turn}
use Rattle.flat_machine.proofs.RunLaws.{by_turns_none}
use Rattle.guest_cli.specs.TurnRuns.{Itself, Limited, Wanting}
use Rattle.guest_cli.proofs.OutputPieces.{piece_grows, piece_written, goes_on}
use Rattle.guest_cli.proofs.Pieces.{more_turns}
use Rattle.guest_cli.proofs.run_command.run_to_end.Goals as goal

pub pieces-init : goal.pieces-init
pieces-init g c =
    let process : Process = c.args.process.now in
    record {
      ran = by_turns_none (first_turn process) process ∙ ap (λ t. Some (t, process)) (sym c.first_turn-turn.ensures.turn);
      live = c.first_turn-turn.ensures.live;
      within = omega arith;
      counted = c.in_ok-written.ensures.all ∙ ap length c.output.ensures;
      written = subst (Appends (g.O.Write.contents c.args.out.now) (g.O.Write.contents c.write_more.new.out)) c.output.ensures c.in_ok-written.ensures.more;
    }

pub write_more-requires-in-pieces : goal.write_more-requires-in-pieces
write_more-requires-in-pieces g c =
    let grown = piece_grows c.run_turns-ran.result c.min-most.result c.pieces.turn c.run_turns-ran.new.turn c.pieces.process c.run_turns-ran.new.self c.run_turns-ran.ensures.ran c.run_turns-ran.ensures.memory in
    let size : length c.output-in-pieces.result.now ≡ length (c.pieces.process.environment.output ++ grown.0) = ap length (c.output-in-pieces.ensures ∙ grown.1) in
    omega (arith, size, length-append c.pieces.process.environment.output grown.0, c.pieces.invariant.counted)

pub pieces-preserved : goal.pieces-preserved
pieces-preserved g c =
    let process : Process = c.args.process.now in
    let kept = c.pieces.invariant in
    let few = c.in-Ok.ensures.within in
    let grown = piece_grows c.run_turns-ran.result c.min-most.result c.pieces.turn c.run_turns-ran.new.turn c.pieces.process c.run_turns-ran.new.self c.run_turns-ran.ensures.ran c.run_turns-ran.ensures.memory in
    record {
      ran = more_turns c.pieces.steps c.in-Ok.ran (first_turn process) c.pieces.turn c.run_turns-ran.new.turn process c.pieces.process c.run_turns-ran.new.self kept.ran c.in-Ok.ensures.ran;
      live = c.run_turns-ran.ensures.live;
      within = omega (arith, few);
      counted = c.in_ok-written-2.ensures.all ∙ ap length c.output-in-pieces.ensures;
      written = piece_written _ _ _ c.pieces.process.environment.output c.run_turns-ran.new.self.environment.output c.output-in-pieces.result.now c.pieces.written kept.written grown kept.counted c.output-in-pieces.ensures c.in_ok-written-2.ensures.more;
    }

pub returns-in-Err : goal.returns-in-Err
returns-in-Err g c =
    let process : Process = c.args.process.now in
    let kept = c.pieces.invariant in
    let wants = c.in-Err.ensures.memory.1 in
    let few = c.in-Err.ensures.memory.0 in
    let grown = piece_grows c.run_turns-ran.result c.min-most.result c.pieces.turn c.run_turns-ran.new.turn c.pieces.process c.run_turns-ran.new.self c.run_turns-ran.ensures.ran c.run_turns-ran.ensures.memory in
    record {
      turn = c.run_turns-ran.new.turn;
      ran = more_turns c.pieces.steps c.in-Err.stop.steps (first_turn process) c.pieces.turn c.run_turns-ran.new.turn process c.pieces.process c.run_turns-ran.new.self kept.ran wants.ran;
      within = omega (arith, few);
      ended = Wanting (goes_on c.run_turns-ran.new.turn c.run_turns-ran.new.self wants.wants.may) wants.wants;
      written = piece_written _ _ _ c.pieces.process.environment.output c.run_turns-ran.new.self.environment.output c.output-in-pieces.result.now c.pieces.written kept.written grown kept.counted c.output-in-pieces.ensures c.in_ok-written-2.ensures.more;
    }

pub returns-in-Some : goal.returns-in-Some
returns-in-Some g c =
    let process : Process = c.args.process.now in
    let kept = c.pieces.invariant in
    let few = c.in-Ok.ensures.within in
    let grown = piece_grows c.run_turns-ran.result c.min-most.result c.pieces.turn c.run_turns-ran.new.turn c.pieces.process c.run_turns-ran.new.self c.run_turns-ran.ensures.ran c.run_turns-ran.ensures.memory in
    record {
      turn = c.run_turns-ran.new.turn;
      ran = more_turns c.pieces.steps c.in-Ok.ran (first_turn process) c.pieces.turn c.run_turns-ran.new.turn process c.pieces.process c.run_turns-ran.new.self kept.ran c.in-Ok.ensures.ran;
      within = omega (arith, few);
      ended = Itself c.in-Some.end (sym c.end.ensures ∙ c.in-Some.is);
      written = piece_written _ _ _ c.pieces.process.environment.output c.run_turns-ran.new.self.environment.output c.output-in-pieces.result.now c.pieces.written kept.written grown kept.counted c.output-in-pieces.ensures c.in_ok-written-2.ensures.more;
    }

pub returns-in-Some-end : goal.returns-in-Some-end
returns-in-Some-end g c = record {
  turn = c.pieces.turn;
  ran = c.pieces.invariant.ran;
  within = c.pieces.invariant.within;
  ended = Itself c.in-Some-end.end (sym c.end-2.ensures ∙ c.in-Some-end.is);
  written = c.pieces.invariant.written;
}

pub returns-in-None : goal.returns-in-None
returns-in-None g c = record {
  turn = c.pieces.turn;
  ran = c.pieces.invariant.ran;
  within = c.pieces.invariant.within;
  ended = Limited (sym c.end-2.ensures ∙ c.in-None.is) (omega arith);
  written = c.pieces.invariant.written;
}
