-- One process changes, and counts as before.
use Rattle.std.proofs.Common.{arith}
use Rattle.machine_core.proofs.Cores.{lent_machine, step_alike}
use Rattle.machine_core.proofs.machine.Core.step.Goals as goal

pub invariant_of-self : goal.invariant_of-self
invariant_of-self g c = record {
  machine = lent_machine _ (step_alike _ _ _ _) c.self.inside.pager c.self.inside.slots c.self.inside.jobs.items c.self.inside.copies.items c.self.inside.processes.items c.as_mut_slice.result.now c.step-stop.new.processes c.self.inside.processes.len c.args.process
      c.self.invariant.machine (omega (arith, c.self.inside.processes.ok.0)) c.as_mut_slice.ensures.value c.step-stop.ensures;
  roomy = c.self.invariant.roomy;
  spacious = c.self.invariant.spacious;
}
