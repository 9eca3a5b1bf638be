use Rattle.run_paths.proofs.Along.{leads_by_turns}
use Rattle.run_paths.proofs.running.Place.go_by_turns.Goals as goal

pub returns-in-Ok-clause-led : goal.returns-in-Ok-clause-led
returns-in-Ok-clause-led c = leads_by_turns c.args.count c.in-Ok.steps c.args.self.now (record { turn = c.run_turns.new.turn; process = c.run_turns.new.self }) c.if-steps-count.true c.in-Ok.ensures.ran
