use Rattle.std.proofs.Common.{inr, refl}
use Rattle.debug_core.proofs.running.advance.Goals as goal

-- a watch could not be read
pub returns-in-Err-clause-advances : goal.returns-in-Err-clause-advances
returns-in-Err-clause-advances g c was seen = ((c.in-Err.ensures.shown, inr (c.in-Err.ensures.not_ended, c.in-Err.ensures.unread was seen)), refl)
