-- The page is one of a process that is there, and the machine stays one.
use Rattle.std.proofs.Common.{arith}
use Rattle.machine_core.proofs.PageInEvents.{page_in_machine, page_in_size, page_in_served}
use Rattle.machine_core.proofs.machine.Core.page_in.Goals as goal

pub invariant_of-self : goal.invariant_of-self
invariant_of-self g c = record {
  machine = page_in_machine _ _ _ c.self.inside.pager c.page_in_at.new.pager c.self.inside.slots c.self.inside.jobs.items c.self.inside.copies.items c.self.inside.processes.items c.as_mut_slice.result.now c.page_in_at.new.processes c.self.inside.processes.len c.args.key c.page_in_at.result
      c.self.invariant.machine (omega (arith, c.self.inside.processes.ok.0)) c.as_mut_slice.ensures.value c.page_in_at.ensures;
  roomy =
      let same = page_in_size _ _ _ c.self.inside.pager c.page_in_at.new.pager c.self.inside.slots c.self.inside.jobs.items c.self.inside.copies.items c.self.inside.processes.items c.as_mut_slice.result.now c.page_in_at.new.processes c.self.inside.processes.len c.args.key c.page_in_at.result
      c.self.invariant.machine (omega (arith, c.self.inside.processes.ok.0)) c.as_mut_slice.ensures.value c.page_in_at.ensures in
      let room = c.self.invariant.roomy in
      omega (arith, same, room);
  spacious =
      let same = page_in_size _ _ _ c.self.inside.pager c.page_in_at.new.pager c.self.inside.slots c.self.inside.jobs.items c.self.inside.copies.items c.self.inside.processes.items c.as_mut_slice.result.now c.page_in_at.new.processes c.self.inside.processes.len c.args.key c.page_in_at.result
      c.self.invariant.machine (omega (arith, c.self.inside.processes.ok.0)) c.as_mut_slice.ensures.value c.page_in_at.ensures in
      let room = c.self.invariant.spacious in
      omega (arith, same, room);
}

pub returns : goal.returns
returns g c =
    page_in_served _ _ _ c.self.inside.pager c.page_in_at.new.pager c.self.inside.slots c.self.inside.jobs.items c.self.inside.copies.items c.self.inside.processes.items c.as_mut_slice.result.now c.page_in_at.new.processes c.self.inside.processes.len c.args.key c.page_in_at.result
    c.self.invariant.machine (omega (arith, c.self.inside.processes.ok.0)) c.as_mut_slice.ensures.value c.page_in_at.ensures
    c.args.self.now c.self.view_is
