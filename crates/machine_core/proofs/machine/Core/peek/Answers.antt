-- One process is looked at, and counts as before.
use Rattle.std.proofs.Common.{◌<◌, ◌^◌, arith}
use Rattle.machine_core.proofs.Cores.{lent_machine}
use Rattle.machine_core.proofs.Peeked.{peek_alike}
use Rattle.machine_core.proofs.machine.Core.peek.Goals as goal

pub invariant_of-self : goal.invariant_of-self
invariant_of-self g c = record {
  machine = let small : c.args.address < 2 ^ 32 = omega (arith, c.ranges.address) in lent_machine _ (peek_alike _ _ _ _ small _ _ _) c.self.inside.pager c.self.inside.slots c.self.inside.jobs.items c.self.inside.copies.items c.self.inside.processes.items c.as_mut_slice.result.now c.peek_at-read.new.processes c.self.inside.processes.len c.args.process
      c.self.invariant.machine (omega (arith, c.self.inside.processes.ok.0)) c.as_mut_slice.ensures.value c.peek_at-read.ensures;
  roomy = c.self.invariant.roomy;
  spacious = c.self.invariant.spacious;
}
