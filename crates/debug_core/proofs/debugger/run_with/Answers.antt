-- The points that are left out are none.
use Rattle.debug_core.proofs.Trimmed.{stops_answered, wants_answered}
use Rattle.debug_core.proofs.debugger.run_with.Goals as goal

pub returns-clause-stops : goal.returns-clause-stops
returns-clause-stops g c =
    stops_answered c.used-used.result c.args.points.now c.used-used.ensures.none g.T.Target.shown g.T.Target.limits _ _ _ _ _ _ c.run.result.why c.run.ensures.stops

pub returns-clause-wants : goal.returns-clause-wants
returns-clause-wants g c =
    wants_answered c.used-used.result c.args.points.now c.used-used.ensures.none g.T.Target.shown g.T.Target.limits _ _ _ _ _ _ c.run.result.why c.run.ensures.wants
