use Rattle.space_core.proofs.StepMoves.{whole_ended}
use Rattle.space_core.proofs.running.Running.kill.Goals as goal

pub invariant_of-self : goal.invariant_of-self
invariant_of-self c = record {
  whole = λ any. whole_ended c.self.inside.harts.items c.self.inside.env any c.self.inside.end _ (c.self.invariant.whole any);
  roomy = c.self.invariant.roomy;
}
