-- The save of the page is out, and its end is one that the machine answers.
use Rattle.std.proofs.Common.{◌≡◌, ◌<◌, length, None, inr, sym, ap, ◌∙◌, arith}
use Rattle.std.proofs.lemmas.Option.{slice_get_within}
use Rattle.machine_core.specs.SavingOut.{saved_refusal}
use Rattle.machine_core.proofs.SavingPages.{not_refused, is_out}
use Rattle.machine_core.proofs.SavesOut.{can_return_at, is_own, saved_size, saved_back, saved_once}
use Rattle.machine_core.proofs.machine.Core.saved.Goals as goal

pub unreachable-requires : goal.unreachable-requires
unreachable-requires g c =
    let allowed : saved_refusal c.args.key c.self.inside.processes.items ≡ None = sym (ap (saved_refusal c.args.key) c.as_slice.ensures.value) ∙ sym c.saved_refusal-refusal.ensures ∙ c.in_default.is in
    is_out (record { pager = c.self.inside.pager; slots = c.self.inside.slots; processes = c.self.inside.processes.items; jobs = c.self.inside.jobs.items; copies = c.self.inside.copies.items }) c.args.key c.self.invariant.machine allowed (c.in_default-write_out.ensures.none)

pub saved_at-outcome-requires-clause-there : goal.saved_at-outcome-requires-clause-there
saved_at-outcome-requires-clause-there g c =
    let allowed : saved_refusal c.args.key c.self.inside.processes.items ≡ None = sym (ap (saved_refusal c.args.key) c.as_slice.ensures.value) ∙ sym c.saved_refusal-refusal.ensures ∙ c.in_default.is in
    let page = not_refused c.self.inside.processes.items c.args.key allowed in
    let within : c.args.key.process < length c.self.inside.processes.items = slice_get_within c.self.inside.processes.items c.args.key.process page.process page.found in
    let same : length c.as_mut_slice.result.now ≡ length c.self.inside.processes.items = ap length c.as_mut_slice.ensures.value in
    omega (arith, within, same)

pub saved_at-outcome-requires-clause-listed : goal.saved_at-outcome-requires-clause-listed
saved_at-outcome-requires-clause-listed g c =
    can_return_at g.S.SwapSlot.content g.S.SwapSlot.honest g.S.SwapSlot.failures c.self.inside.pager c.self.inside.slots c.self.inside.jobs.items c.self.inside.copies.items c.write_out.new.jobs.items c.self.inside.processes.items c.as_mut_slice.result.now c.args.key c.in-Some-write_out.job
    c.self.invariant.machine c.as_mut_slice.ensures.value c.in-Some-write_out.ensures.makes

pub saved_reply-requires : goal.saved_reply-requires
saved_reply-requires g c =
    is_own g.S.SwapSlot.content g.S.SwapSlot.honest g.S.SwapSlot.failures c.self.inside.pager c.saved_at-outcome.new.pager c.self.inside.slots c.self.inside.jobs.items c.self.inside.copies.items c.write_out.new.jobs.items c.self.inside.processes.items c.as_mut_slice.result.now c.saved_at-outcome.new.processes c.self.inside.processes.len c.args.key c.in-Some-write_out.job c.saved_at-outcome.result
    c.self.invariant.machine (omega (arith, c.self.inside.processes.ok.0)) c.as_mut_slice.ensures.value c.in-Some-write_out.ensures.makes c.saved_at-outcome.ensures

pub invariant_of-self : goal.invariant_of-self
invariant_of-self g c =
    let size = saved_size g.S.SwapSlot.content g.S.SwapSlot.honest g.S.SwapSlot.failures c.self.inside.pager c.saved_at-outcome.new.pager c.self.inside.slots c.self.inside.jobs.items c.self.inside.copies.items c.write_out.new.jobs.items c.self.inside.processes.items c.as_mut_slice.result.now c.saved_at-outcome.new.processes c.self.inside.processes.len c.args.key c.in-Some-write_out.job c.saved_at-outcome.result
    c.self.invariant.machine (omega (arith, c.self.inside.processes.ok.0)) c.as_mut_slice.ensures.value c.in-Some-write_out.ensures.makes c.saved_at-outcome.ensures c.saved_reply.result c.saved_reply.ensures in
    record {
      machine = saved_back g.S.SwapSlot.content g.S.SwapSlot.honest g.S.SwapSlot.failures c.self.inside.pager c.saved_at-outcome.new.pager c.self.inside.slots c.self.inside.jobs.items c.self.inside.copies.items c.write_out.new.jobs.items c.self.inside.processes.items c.as_mut_slice.result.now c.saved_at-outcome.new.processes c.self.inside.processes.len c.args.key c.in-Some-write_out.job c.saved_at-outcome.result
          c.self.invariant.machine (omega (arith, c.self.inside.processes.ok.0)) c.as_mut_slice.ensures.value c.in-Some-write_out.ensures.makes c.saved_at-outcome.ensures c.saved_reply.result c.saved_reply.ensures;
      roomy =
          let room = c.self.invariant.roomy in
          let capacity = c.write_out.ensures.capacity in
          omega (arith, size, room, capacity);
      spacious = let room = c.self.invariant.spacious in omega (arith, size, room);
    }

pub returns : goal.returns
returns g c =
    let allowed : saved_refusal c.args.key c.self.inside.processes.items ≡ None = sym (ap (saved_refusal c.args.key) c.as_slice.ensures.value) ∙ sym c.saved_refusal-refusal.ensures ∙ c.in_default.is in
    inr
    (saved_once g.S.SwapSlot.content g.S.SwapSlot.honest g.S.SwapSlot.failures c.self.inside.pager c.saved_at-outcome.new.pager c.self.inside.slots c.self.inside.jobs.items c.self.inside.copies.items c.write_out.new.jobs.items c.self.inside.processes.items c.as_mut_slice.result.now c.saved_at-outcome.new.processes c.self.inside.processes.len c.args.key c.in-Some-write_out.job c.saved_at-outcome.result
    c.self.invariant.machine (omega (arith, c.self.inside.processes.ok.0)) c.as_mut_slice.ensures.value c.in-Some-write_out.ensures.makes c.saved_at-outcome.ensures c.saved_reply.result c.saved_reply.ensures
    c.args.self.now c.self.view_is allowed)
