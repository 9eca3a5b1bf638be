-- The hart runs alone, and the turn goes on where it did a step.
use Rattle.std.proofs.Common.{◌∙◌}
use Rattle.debug_core.proofs.Alone.{none_live}
use Rattle.debug_core.proofs.debugger.Debugger.go_hart.Goals as goal

pub turn_left-self-inside-requires : goal.turn_left-self-inside-requires
turn_left-self-inside-requires g c = λ none.
    none_live g.T.Target.shown g.T.Target.limits _ _ _ c.run_with-ran.result.steps _ _ _ c.run_with-ran.result.why c.run_with-ran.ensures.stops c.run_with-ran.ensures.wants none c.self.inside.turn ∙ c.self.invariant.live
