use Rattle.std.proofs.Common.{rules}
use Rattle.command_line.proofs.requests.run_request.Goals as goal

pub returns-in_err-frames-clause-bad : goal.returns-in_err-frames-clause-bad
returns-in_err-frames-clause-bad c _ request asked = c.in_err-frames.ensures.bad (search rules) request.frames asked.frames_are

pub returns-in_err-slots-clause-bad : goal.returns-in_err-slots-clause-bad
returns-in_err-slots-clause-bad c _ request asked = c.in_err-slots.ensures.bad (search rules) request.slots asked.slots_are

pub returns-in_err-slice-clause-bad : goal.returns-in_err-slice-clause-bad
returns-in_err-slice-clause-bad c _ request asked = c.in_err-slice.ensures.bad (search rules) request.slice asked.slice_is

pub returns-in_err-limit-clause-bad : goal.returns-in_err-limit-clause-bad
returns-in_err-limit-clause-bad c _ request asked = c.in_err-limit.ensures.bad (search rules) request.limit asked.limit_is
