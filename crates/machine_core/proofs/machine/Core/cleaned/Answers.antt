-- The copy of the page is out, and stands for it, so that it is the page's own.
use Rattle.std.proofs.Common.{◌≡◌, inr, sym, ap, arith, subst}
use Rattle.machine_core.specs.Machine.{IsMachine}
use Rattle.machine_core.proofs.CopiesBack.{is_own_copy, cleaned_back, cleaned_once}
use Rattle.machine_core.proofs.machine.Core.cleaned.Goals as goal

pub cleaned_reply-requires : goal.cleaned_reply-requires
cleaned_reply-requires g c =
    is_own_copy g.S.SwapSlot.content g.S.SwapSlot.honest g.S.SwapSlot.failures c.self.inside.pager c.self.inside.slots c.self.inside.jobs.items c.self.inside.copies.items c.write_out.new.jobs.items c.self.inside.processes.items c.as_mut_slice.result.now c.take_back-came.new.processes c.self.inside.processes.len c.args.key c.in-Some-write_out.job c.take_back-came.result
    c.self.invariant.machine (omega (arith, c.self.inside.processes.ok.0)) c.as_mut_slice.ensures.value c.in-Some-write_out.ensures.makes c.take_back-came.ensures

pub invariant_of-self : goal.invariant_of-self
invariant_of-self g c = record {
  machine =
      subst (λ l. IsMachine (record { pager = c.self.inside.pager; slots = c.self.inside.slots; processes = c.self.inside.processes.items; jobs = c.self.inside.jobs.items; copies = l }))
      (sym (ap (λ v. v.items) c.in_default-write_out.ensures.stays)) c.self.invariant.machine;
  roomy = c.self.invariant.roomy;
  spacious = let room = c.self.invariant.spacious in let capacity = c.write_out.ensures.capacity in omega (arith, room, capacity);
}

pub invariant_of-self-2 : goal.invariant_of-self-2
invariant_of-self-2 g c = record {
  machine = cleaned_back g.S.SwapSlot.content g.S.SwapSlot.honest g.S.SwapSlot.failures c.self.inside.pager c.self.inside.slots c.self.inside.jobs.items c.self.inside.copies.items c.write_out.new.jobs.items c.self.inside.processes.items c.as_mut_slice.result.now c.take_back-came.new.processes c.self.inside.processes.len c.args.key c.in-Some-write_out.job c.take_back-came.result
      c.self.invariant.machine (omega (arith, c.self.inside.processes.ok.0)) c.as_mut_slice.ensures.value c.in-Some-write_out.ensures.makes c.take_back-came.ensures;
  roomy = c.self.invariant.roomy;
  spacious = let room = c.self.invariant.spacious in let capacity = c.write_out.ensures.capacity in omega (arith, room, capacity);
}

pub returns : goal.returns
returns g c =
    inr
    (cleaned_once g.S.SwapSlot.content g.S.SwapSlot.honest g.S.SwapSlot.failures c.self.inside.pager c.self.inside.slots c.self.inside.jobs.items c.self.inside.copies.items c.write_out.new.jobs.items c.self.inside.processes.items c.as_mut_slice.result.now c.take_back-came.new.processes c.self.inside.processes.len c.args.key c.in-Some-write_out.job c.take_back-came.result
    c.self.invariant.machine (omega (arith, c.self.inside.processes.ok.0)) c.as_mut_slice.ensures.value c.in-Some-write_out.ensures.makes c.take_back-came.ensures c.args.self.now c.cleaned_reply.result c.self.view_is c.in-Some-write_out.ensures.found c.cleaned_reply.ensures)
