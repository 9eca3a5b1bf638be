-- By the machine's counts everything has its place.
use Rattle.std.proofs.Common.{refl, sym, ap, ◌∙◌, inr, arith}
use Rattle.machine_core.specs.declared.event.Reply.TheVariants.{Purged}
use Rattle.machine_core.specs.PurgeEvent.{purge_refusal}
use Rattle.machine_core.proofs.PurgeEvents.{has_room_at, purged_back, purged_size, purged_once}
use Rattle.machine_core.proofs.machine.Core.purge.Goals as goal

pub purge_at-requires-clause-room : goal.purge_at-requires-clause-room
purge_at-requires-clause-room g c =
    has_room_at c.self.inside.pager c.self.inside.slots c.self.inside.jobs.items c.self.inside.copies.items c.self.inside.processes.items c.as_mut_slice.result.now c.args.process c.self.invariant.machine c.as_mut_slice.ensures.value

pub invariant_of-self : goal.invariant_of-self
invariant_of-self g c = record {
  machine = purged_back c.self.inside.pager c.purge_at.new.pager c.self.inside.slots c.purge_at.new.slots c.self.inside.jobs.items c.self.inside.copies.items c.self.inside.processes.items c.as_mut_slice.result.now c.purge_at.new.processes
      c.self.inside.processes.len c.args.process c.purge_at.result c.self.invariant.machine (sym (ap (purge_refusal c.args.process) c.as_slice.ensures.value) ∙ sym c.purge_refusal-refusal.ensures ∙ c.in_default.is)
      (omega (arith, c.self.inside.processes.ok.0)) c.as_mut_slice.ensures.value c.purge_at.ensures;
  roomy =
      let same = purged_size c.self.inside.pager c.purge_at.new.pager c.self.inside.slots c.purge_at.new.slots c.self.inside.jobs.items c.self.inside.copies.items c.self.inside.processes.items c.as_mut_slice.result.now c.purge_at.new.processes
      c.self.inside.processes.len c.args.process c.purge_at.result c.self.invariant.machine (sym (ap (purge_refusal c.args.process) c.as_slice.ensures.value) ∙ sym c.purge_refusal-refusal.ensures ∙ c.in_default.is)
      (omega (arith, c.self.inside.processes.ok.0)) c.as_mut_slice.ensures.value c.purge_at.ensures in
      let room = c.self.invariant.roomy in
      omega (arith, same, room);
  spacious =
      let same = purged_size c.self.inside.pager c.purge_at.new.pager c.self.inside.slots c.purge_at.new.slots c.self.inside.jobs.items c.self.inside.copies.items c.self.inside.processes.items c.as_mut_slice.result.now c.purge_at.new.processes
      c.self.inside.processes.len c.args.process c.purge_at.result c.self.invariant.machine (sym (ap (purge_refusal c.args.process) c.as_slice.ensures.value) ∙ sym c.purge_refusal-refusal.ensures ∙ c.in_default.is)
      (omega (arith, c.self.inside.processes.ok.0)) c.as_mut_slice.ensures.value c.purge_at.ensures in
      let room = c.self.invariant.spacious in
      omega (arith, same, room);
}

pub returns : goal.returns
returns g c =
    inr
    (purged_once c.self.inside.pager c.purge_at.new.pager c.self.inside.slots c.purge_at.new.slots c.self.inside.jobs.items c.self.inside.copies.items c.self.inside.processes.items c.as_mut_slice.result.now c.purge_at.new.processes
    c.self.inside.processes.len c.args.process c.purge_at.result c.self.invariant.machine (sym (ap (purge_refusal c.args.process) c.as_slice.ensures.value) ∙ sym c.purge_refusal-refusal.ensures ∙ c.in_default.is)
    (omega (arith, c.self.inside.processes.ok.0)) c.as_mut_slice.ensures.value c.purge_at.ensures
    c.args.self.now Purged c.self.view_is refl)
