use Rattle.machine_core.proofs.WritingAheadLaws.{none_between}
use Rattle.machine_core.proofs.running.writes_ahead.Goals as goal

pub returns : goal.returns
returns g c = none_between g.S.SwapSlot.content g.S.SwapSlot.honest g.S.SwapSlot.failures
