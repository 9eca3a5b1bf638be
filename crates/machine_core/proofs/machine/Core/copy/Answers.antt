-- A copy goes out where there is room for it, or none does.
use Rattle.std.proofs.Common.{arith}
use Rattle.machine_core.proofs.CopiesGo.{copy_fits_in, copy_back, copy_told}
use Rattle.machine_core.proofs.machine.Core.copy.Goals as goal

pub keep_copy-requires : goal.keep_copy-requires
keep_copy-requires g c =
    copy_fits_in g.S.SwapSlot.content c.self.inside.pager c.self.inside.slots c.copy_at-copied.new.slots c.self.inside.jobs.items c.self.inside.copies.items c.self.inside.copies.items c.self.inside.processes.items c.as_mut_slice.result.now c.copy_at-copied.new.processes c.self.inside.processes.len c.args.key c.copy_at-copied.result
    c.self.invariant.machine (omega (arith, c.self.inside.processes.ok.0)) c.as_mut_slice.ensures.value c.copy_at-copied.ensures _ _ c.self.inside.copies.ok.0 c.self.invariant.spacious

pub invariant_of-self : goal.invariant_of-self
invariant_of-self g c = record {
  machine = copy_back g.S.SwapSlot.content c.self.inside.pager c.self.inside.slots c.copy_at-copied.new.slots c.self.inside.jobs.items c.self.inside.copies.items c.keep_copy.new.copies.items c.self.inside.processes.items c.as_mut_slice.result.now c.copy_at-copied.new.processes c.self.inside.processes.len c.args.key c.copy_at-copied.result
      c.self.invariant.machine (omega (arith, c.self.inside.processes.ok.0)) c.as_mut_slice.ensures.value c.copy_at-copied.ensures c.keep_copy.ensures.copies;
  roomy = c.self.invariant.roomy;
  spacious = let room = c.self.invariant.spacious in let capacity = c.keep_copy.ensures.capacity in omega (arith, room, capacity);
}

pub returns : goal.returns
returns g c =
    copy_told g.S.SwapSlot.content c.self.inside.pager c.self.inside.slots c.copy_at-copied.new.slots c.self.inside.jobs.items c.self.inside.copies.items c.keep_copy.new.copies.items c.self.inside.processes.items c.as_mut_slice.result.now c.copy_at-copied.new.processes c.self.inside.processes.len c.args.key c.copy_at-copied.result
    c.self.invariant.machine (omega (arith, c.self.inside.processes.ok.0)) c.as_mut_slice.ensures.value c.copy_at-copied.ensures c.args.self.now c.keep_copy.result c.self.view_is c.keep_copy.ensures.copies c.keep_copy.ensures.reply
