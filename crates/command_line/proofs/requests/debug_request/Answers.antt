use Rattle.std.proofs.Common.{rules}
use Rattle.command_line.proofs.requests.debug_request.Goals as goal

pub returns-in_err-frames-clause-bad : goal.returns-in_err-frames-clause-bad
returns-in_err-frames-clause-bad c _ request asked = c.in_err-frames.ensures.bad (search rules) request.frames asked.0
