use Rattle.std.proofs.Common.{rules}
use Rattle.command_line.proofs.requests.flat_request.Goals as goal

pub returns-in_err-limit-clause-bad : goal.returns-in_err-limit-clause-bad
returns-in_err-limit-clause-bad c _ request asked = c.in_err-limit.ensures.bad (search rules) request.limit asked.0
