-- The page is leaving, so that the list has room for it.
use Rattle.std.proofs.Common.{sym, ap, ◌∙◌, inr, arith}
use Rattle.machine_core.specs.CollectEvent.{collect_refusal}
use Rattle.machine_core.proofs.Collects.{can_return_at, room, collected_back, collected_size, collected_told}
use Rattle.machine_core.proofs.machine.Core.collect.Goals as goal

pub collect_at-looked-requires-clause-listed : goal.collect_at-looked-requires-clause-listed
collect_at-looked-requires-clause-listed g c =
    can_return_at c.self.inside.pager c.self.inside.slots c.self.inside.jobs.items c.self.inside.copies.items c.self.inside.processes.items c.as_mut_slice.result.now c.args.key
    c.self.invariant.machine (ap (collect_refusal c.args.key) (sym c.as_slice.ensures.value) ∙ sym c.collect_refusal-refusal.ensures ∙ c.in_default.is) c.as_mut_slice.ensures.value

pub keep-requires : goal.keep-requires
keep-requires g c =
    let fits = room g.S.SwapSlot.content g.S.SwapSlot.honest c.self.inside.pager c.collect_at-looked.new.pager c.self.inside.slots c.collect_at-looked.new.slots c.self.inside.jobs.items c.self.inside.copies.items c.self.inside.processes.items c.as_mut_slice.result.now c.collect_at-looked.new.processes c.self.inside.processes.len c.args.key c.collect_at-looked.result
    c.self.invariant.machine (ap (collect_refusal c.args.key) (sym c.as_slice.ensures.value) ∙ sym c.collect_refusal-refusal.ensures ∙ c.in_default.is) (omega (arith, c.self.inside.processes.ok.0)) c.as_mut_slice.ensures.value c.collect_at-looked.ensures in
    let roomy = c.self.invariant.roomy in
    omega (arith, fits, roomy, c.self.inside.jobs.ok.0)

pub invariant_of-self : goal.invariant_of-self
invariant_of-self g c = record {
  machine = collected_back g.S.SwapSlot.content g.S.SwapSlot.honest c.self.inside.pager c.collect_at-looked.new.pager c.self.inside.slots c.collect_at-looked.new.slots c.self.inside.jobs.items c.self.inside.copies.items c.self.inside.processes.items c.as_mut_slice.result.now c.collect_at-looked.new.processes c.self.inside.processes.len c.args.key c.collect_at-looked.result
      c.self.invariant.machine (ap (collect_refusal c.args.key) (sym c.as_slice.ensures.value) ∙ sym c.collect_refusal-refusal.ensures ∙ c.in_default.is) (omega (arith, c.self.inside.processes.ok.0)) c.as_mut_slice.ensures.value c.collect_at-looked.ensures c.keep.new.jobs.items c.keep.result c.keep.ensures.jobs c.keep.ensures.reply;
  roomy =
      let same = collected_size g.S.SwapSlot.content g.S.SwapSlot.honest c.self.inside.pager c.collect_at-looked.new.pager c.self.inside.slots c.collect_at-looked.new.slots c.self.inside.jobs.items c.self.inside.copies.items c.self.inside.processes.items c.as_mut_slice.result.now c.collect_at-looked.new.processes c.self.inside.processes.len c.args.key c.collect_at-looked.result
      c.self.invariant.machine (ap (collect_refusal c.args.key) (sym c.as_slice.ensures.value) ∙ sym c.collect_refusal-refusal.ensures ∙ c.in_default.is) (omega (arith, c.self.inside.processes.ok.0)) c.as_mut_slice.ensures.value c.collect_at-looked.ensures c.keep.new.jobs.items c.keep.result c.keep.ensures.jobs c.keep.ensures.reply in
      let roomy = c.self.invariant.roomy in
      let capacity = c.keep.ensures.capacity in
      omega (arith, same, roomy, capacity);
  spacious =
      let same = collected_size g.S.SwapSlot.content g.S.SwapSlot.honest c.self.inside.pager c.collect_at-looked.new.pager c.self.inside.slots c.collect_at-looked.new.slots c.self.inside.jobs.items c.self.inside.copies.items c.self.inside.processes.items c.as_mut_slice.result.now c.collect_at-looked.new.processes c.self.inside.processes.len c.args.key c.collect_at-looked.result
      c.self.invariant.machine (ap (collect_refusal c.args.key) (sym c.as_slice.ensures.value) ∙ sym c.collect_refusal-refusal.ensures ∙ c.in_default.is) (omega (arith, c.self.inside.processes.ok.0)) c.as_mut_slice.ensures.value c.collect_at-looked.ensures c.keep.new.jobs.items c.keep.result c.keep.ensures.jobs c.keep.ensures.reply in
      let room = c.self.invariant.spacious in
      omega (arith, same, room);
}

pub returns : goal.returns
returns g c =
    inr
    (collected_told g.S.SwapSlot.content g.S.SwapSlot.honest c.self.inside.pager c.collect_at-looked.new.pager c.self.inside.slots c.collect_at-looked.new.slots c.self.inside.jobs.items c.self.inside.copies.items c.self.inside.processes.items c.as_mut_slice.result.now c.collect_at-looked.new.processes c.self.inside.processes.len c.args.key c.collect_at-looked.result
    c.self.invariant.machine (ap (collect_refusal c.args.key) (sym c.as_slice.ensures.value) ∙ sym c.collect_refusal-refusal.ensures ∙ c.in_default.is) (omega (arith, c.self.inside.processes.ok.0)) c.as_mut_slice.ensures.value c.collect_at-looked.ensures c.keep.new.jobs.items c.keep.result c.keep.ensures.jobs c.keep.ensures.reply
    c.args.self.now c.self.view_is)
