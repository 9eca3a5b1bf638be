-- What can be recorded once the instruction was served.
use Rattle.std.proofs.Common.{IfOk, refl, subst, sym}
use Rattle.std.specs.Prelude.{OnErr}
use Rattle.debug_core.specs.Limits.{HeedsLimits, KeepsRoom, LeavesRoom}
use Rattle.paged_target.specs.Lacks.{Lacks}
use Rattle.paged_target.specs.Shown.{TargetValue}
use Rattle.paged_target.proofs.paged_target.PagedTargetTarget.step.Goals.{in-Ran, in-Absent, in-NoMemory}
use Rattle.paged_target.proofs.paged_target.PagedTargetTarget.step.Goals as goal

pub returns-clause-recorded : goal.returns-clause-recorded
returns-clause-recorded g c =
    let new : TargetValue = record { core = c.serve.new.core; full = c.self.inside.full } in
    let old : TargetValue = record { core = c.self.inside.core; full = c.self.inside.full } in
    subst (λ t. IfOk c.match-serve.result (λ p. LeavesRoom p c.args.hart (Lacks t) (Lacks new))) c.self.view_is
    (elim c.match-serve.branch [
      | in-Ran w ↦ subst (λ r. IfOk r (λ p. LeavesRoom p c.args.hart (Lacks old) (Lacks new))) (sym w.result-is) w.in-Ran.ensures.room
      | in-Absent w ↦ subst (λ r. IfOk r (λ p. LeavesRoom p c.args.hart (Lacks old) (Lacks new))) (sym w.result-is) w.in-Absent.ensures.room
      | in-NoMemory w ↦ subst (λ r. IfOk r (λ p. LeavesRoom p c.args.hart (Lacks old) (Lacks new))) (sym w.result-is) (tt {0})
    ])

pub returns-clause-kept : goal.returns-clause-kept
returns-clause-kept g c =
    let new : TargetValue = record { core = c.serve.new.core; full = c.self.inside.full } in
    let old : TargetValue = record { core = c.self.inside.core; full = c.self.inside.full } in
    subst (λ t. OnErr c.match-serve.result (KeepsRoom (Lacks t) (Lacks new))) c.self.view_is
    (elim c.match-serve.branch [
      | in-Ran w ↦ subst (λ r. OnErr r (KeepsRoom (Lacks old) (Lacks new))) (sym w.result-is) (tt {0})
      | in-Absent w ↦ subst (λ r. OnErr r (KeepsRoom (Lacks old) (Lacks new))) (sym w.result-is) (tt {0})
      | in-NoMemory w ↦ subst (λ r. OnErr r (KeepsRoom (Lacks old) (Lacks new))) (sym w.result-is) w.in-NoMemory.ensures.room
    ])

pub returns-clause-heeds : goal.returns-clause-heeds
returns-clause-heeds g c =
    let old : TargetValue = record { core = c.self.inside.core; full = c.self.inside.full } in
    let roomy = c.fits.ensures.roomy c.if-not-fits.false in
    subst (λ t. IfOk c.match-serve.result (λ p. HeedsLimits p c.args.hart (Lacks t))) c.self.view_is
    (elim c.match-serve.branch [
      | in-Ran w ↦ subst (λ r. IfOk r (λ p. HeedsLimits p c.args.hart (Lacks old))) (sym w.result-is) roomy
      | in-Absent w ↦ subst (λ r. IfOk r (λ p. HeedsLimits p c.args.hart (Lacks old))) (sym w.result-is) (roomy, w.in-Absent.ensures.given_up refl)
      | in-NoMemory w ↦ subst (λ r. IfOk r (λ p. HeedsLimits p c.args.hart (Lacks old))) (sym w.result-is) (tt {0})
    ])
