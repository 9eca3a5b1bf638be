-- The slices are steps, one after another.
use Rattle.std.proofs.Common.{◌<◌, length, inl, option_map, refl, sym, ap, ◌∙◌, arith}
use Rattle.space_core.specs.declared.progress.Slice.{Slice}
use Rattle.machine_core.proofs.ApplyingLaws.{runs_none, runs_one}
use Rattle.machine_core.specs.Machine.{CoreValue}
use Rattle.machine_core.specs.MachineRun.{hart_refusal, hart_reason}
use Rattle.machine_core.specs.declared.event.Event.TheVariants.{Step}
use Rattle.machine_core.specs.declared.event.Reply.TheVariants.{Refused}
use Rattle.machine_core.proofs.Cores.{is_there}
use Rattle.machine_core.proofs.SingleSteps.{many_told}
use Rattle.machine_core.proofs.machine.Core.steps.Goals as goal

pub returns-then-most-eq0-clause-runs : goal.returns-then-most-eq0-clause-runs
returns-then-most-eq0-clause-runs g c = runs_none g.S.SwapSlot.content g.S.SwapSlot.honest g.S.SwapSlot.failures c.args.self.now

pub returns-in-Some-clause-runs : goal.returns-in-Some-clause-runs
returns-in-Some-clause-runs g c =
    runs_one g.S.SwapSlot.content g.S.SwapSlot.honest g.S.SwapSlot.failures (Step c.args.process c.args.hart) c.args.self.now c.args.self.now (Refused c.in-Some.refusal)
    (record {
      served = inl (record {
        refusal = c.in-Some.refusal;
        reason_is =
            ap (λ (k : CoreValue _). hart_refusal c.args.process c.args.hart k.processes) (sym c.self.view_is)
            ∙ ap (hart_refusal c.args.process c.args.hart) (sym c.as_slice.ensures.value)
            ∙ sym c.hart_refusal-refusal.ensures ∙ c.in-Some.is;
        reply_is = refl;
        stays = refl;
      });
      faithful = c.faithful.ensures;
    })

pub slices_at-slices-requires : goal.slices_at-slices-requires
slices_at-slices-requires g c =
    let within : c.args.process < length c.as_slice.result.now = is_there (hart_reason c.args.hart) c.as_slice.result.now c.args.process (sym c.in_default.is ∙ c.hart_refusal-refusal.ensures) in
    let first = ap length c.as_slice.ensures.value in
    let second = ap length c.as_mut_slice.ensures.value in
    omega (arith, within, first, second)

pub invariant_of-self : goal.invariant_of-self
invariant_of-self g c = record {
  machine =
      (many_told g.S.SwapSlot.content g.S.SwapSlot.honest g.S.SwapSlot.failures c.args.process c.args.hart c.self.inside.pager c.self.inside.slots c.self.inside.jobs.items c.self.inside.copies.items c.self.inside.processes.items
      c.as_mut_slice.result.now c.slices_at-slices.new.processes c.self.inside.processes.len c.slices_at-slices.result.ran (option_map (λ (slice : Slice). slice.stop) c.slices_at-slices.result.last) _ c.args.self.now c.self.view_is refl
      (sym c.in_default.is ∙ c.hart_refusal-refusal.ensures ∙ ap (hart_refusal c.args.process c.args.hart) c.as_slice.ensures.value)
      c.faithful.ensures (omega (arith, c.self.inside.processes.ok.0)) c.as_mut_slice.ensures.value c.slices_at-slices.ensures.changes).1.machine;
  roomy = c.self.invariant.roomy;
  spacious = c.self.invariant.spacious;
}

pub returns-clause-runs : goal.returns-clause-runs
returns-clause-runs g c =
    (many_told g.S.SwapSlot.content g.S.SwapSlot.honest g.S.SwapSlot.failures c.args.process c.args.hart c.self.inside.pager c.self.inside.slots c.self.inside.jobs.items c.self.inside.copies.items c.self.inside.processes.items
    c.as_mut_slice.result.now c.slices_at-slices.new.processes c.self.inside.processes.len c.slices_at-slices.result.ran (option_map (λ (slice : Slice). slice.stop) c.slices_at-slices.result.last) c.last_reply.result c.args.self.now c.self.view_is c.last_reply.ensures
    (sym c.in_default.is ∙ c.hart_refusal-refusal.ensures ∙ ap (hart_refusal c.args.process c.args.hart) c.as_slice.ensures.value)
    c.faithful.ensures (omega (arith, c.self.inside.processes.ok.0)) c.as_mut_slice.ensures.value c.slices_at-slices.ensures.changes).0

pub returns-clause-coherent : goal.returns-clause-coherent
returns-clause-coherent g c =
    (many_told g.S.SwapSlot.content g.S.SwapSlot.honest g.S.SwapSlot.failures c.args.process c.args.hart c.self.inside.pager c.self.inside.slots c.self.inside.jobs.items c.self.inside.copies.items c.self.inside.processes.items
    c.as_mut_slice.result.now c.slices_at-slices.new.processes c.self.inside.processes.len c.slices_at-slices.result.ran (option_map (λ (slice : Slice). slice.stop) c.slices_at-slices.result.last) c.last_reply.result c.args.self.now c.self.view_is c.last_reply.ensures
    (sym c.in_default.is ∙ c.hart_refusal-refusal.ensures ∙ ap (hart_refusal c.args.process c.args.hart) c.as_slice.ensures.value)
    c.faithful.ensures (omega (arith, c.self.inside.processes.ok.0)) c.as_mut_slice.ensures.value c.slices_at-slices.ensures.changes).1.coherent
