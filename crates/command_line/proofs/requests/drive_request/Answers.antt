use Rattle.std.proofs.Common.{rules}
use Rattle.command_line.proofs.requests.drive_request.Goals as goal

pub returns-in_err-frames-clause-bad : goal.returns-in_err-frames-clause-bad
returns-in_err-frames-clause-bad c _ request asked = c.in_err-frames.ensures.bad (search rules) request.frames asked.frames_are

pub returns-in_err-slots-clause-bad : goal.returns-in_err-slots-clause-bad
returns-in_err-slots-clause-bad c _ request asked = c.in_err-slots.ensures.bad (search rules) request.slots asked.slots_are
