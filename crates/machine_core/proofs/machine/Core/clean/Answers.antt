-- A page's cleaning begins, or nothing changes; the process counts as before.
use Rattle.std.proofs.Common.{arith}
use Rattle.machine_core.proofs.Cleans.{clean_back, clean_told}
use Rattle.machine_core.proofs.machine.Core.clean.Goals as goal

pub invariant_of-self : goal.invariant_of-self
invariant_of-self g c = record {
  machine = clean_back g.S.SwapSlot.content c.self.inside.pager c.self.inside.slots c.self.inside.jobs.items c.self.inside.copies.items c.self.inside.processes.items c.as_mut_slice.result.now c.clean_at-begun.new.processes c.self.inside.processes.len c.args.key c.clean_at-begun.result
      c.self.invariant.machine (omega (arith, c.self.inside.processes.ok.0)) c.as_mut_slice.ensures.value c.clean_at-begun.ensures;
  roomy = c.self.invariant.roomy;
  spacious = c.self.invariant.spacious;
}

pub returns : goal.returns
returns g c =
    clean_told g.S.SwapSlot.content c.self.inside.pager c.self.inside.slots c.self.inside.jobs.items c.self.inside.copies.items c.self.inside.processes.items c.as_mut_slice.result.now c.clean_at-begun.new.processes c.self.inside.processes.len c.args.key c.clean_at-begun.result
    c.self.invariant.machine (omega (arith, c.self.inside.processes.ok.0)) c.as_mut_slice.ensures.value c.clean_at-begun.ensures c.args.self.now c.clean_reply.result c.self.view_is c.clean_reply.ensures
