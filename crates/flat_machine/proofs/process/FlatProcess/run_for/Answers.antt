use Rattle.flat_machine.specs.ByTurns.{first_turn}
use Rattle.flat_machine.proofs.Turning.{ran_from}
use Rattle.flat_machine.proofs.process.FlatProcess.run_for.Goals as goal

pub returns-clause-ran : goal.returns-clause-ran
returns-clause-ran c = ran_from c.run_turns.result c.first_turn-turn.result (first_turn c.args.self.now) c.run_turns.new.turn c.args.self.now c.run_turns.new.self c.first_turn-turn.ensures.turn c.run_turns.ensures.ran
