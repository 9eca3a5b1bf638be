use Rattle.std.proofs.Common.{rules}
use Rattle.command_line.specs.declared.request.Threading.TheVariants.{Serial, Workers}
use Rattle.command_line.proofs.requests.threading.Goals as goal

pub returns-in_err-workers-clause-bad : goal.returns-in_err-workers-clause-bad
returns-in_err-workers-clause-bad c _ Serial asked = c.in_err-workers.ensures.bad (search rules) asked.1.1.1.0 asked.1.1.1.1
returns-in_err-workers-clause-bad c _ (Workers workers status ahead) asked = c.in_err-workers.ensures.bad (search rules) workers asked.1.0
