-- What is published is how far the process has come, and no number of it falls.
use Rattle.std.proofs.Common.{◌∙◌, ◌+◌, sym, ap, subst}
use Rattle.status_cell.specs.Counts.{AtMost}
use Rattle.status_cell.specs.declared.status.Status.{Status}
use Rattle.held_machine.specs.HeldValue.{status_of}
use Rattle.held_machine.proofs.Statuses.{slice_steps, slice_rises}
use Rattle.held_machine.proofs.held.Held.slice.Goals as goal

pub status_after-told-requires : goal.status_after-told-requires
status_after-told-requires g c =
    slice_steps _ _ c.args.hart c.args.budget c.self.inside.side c.run_slice-slice.new.space c.run_slice-slice.result.ran c.run_slice-slice.result.stop c.run_slice-slice.ensures.slice
    ∙ ap (λ (s : Status). s.steps + c.run_slice-slice.result.ran) (sym c.self.invariant.told)

pub publish-requires : goal.publish-requires
publish-requires g c =
    let rises = slice_rises _ _ c.args.hart c.args.budget c.self.inside.side c.run_slice-slice.new.space c.run_slice-slice.result.ran c.run_slice-slice.result.stop c.run_slice-slice.ensures.slice in
    record {
      rises = subst (λ (s : Status). AtMost s c.status_after-told.result) (sym (c.self.invariant.published ∙ c.self.invariant.told))
          (subst (λ (s : Status). AtMost (status_of c.self.inside.side) s) (sym c.status_after-told.ensures) rises);
    }
