-- The process's reason comes first, then the pager's.
use Rattle.std.proofs.Common.{◌≡◌, None, Err, sym, ap, ◌∙◌, subst}
use Rattle.clock_policy.specs.ClockPro.{kind_of}
use Rattle.pager_core.specs.Pager.{PagerState, admission_refused, admitted_with}
use Rattle.pager_core.specs.Refusals.{RefusesAdmission}
use Rattle.machine_sides.specs.Sides.{PagerSideValue}
use Rattle.machine_sides.proofs.Admissions.{barred, refused, admits}
use Rattle.machine_sides.proofs.admission.list_and_take.Goals as goal

pub returns-in-Some-clause-refused : goal.returns-in-Some-clause-refused
returns-in-Some-clause-refused g c = barred c.args.key c.args.pager.now c.args.process.now c.in-Some.reason (sym c.in-Some.is ∙ c.page_bars.ensures)

pub returns-in-Err-clause-refused : goal.returns-in-Err-clause-refused
returns-in-Err-clause-refused g c =
    refused c.args.key c.args.pager.now _ c.args.process.now c.in-Err.refusal c.pager_refusal.result c.pager_refusal.ensures (sym c.in_default.is ∙ c.page_bars.ensures)
    (subst (λ (p : PagerSideValue). RefusesAdmission c.in-Err.refusal c.args.key p.pager) c.pager.view_is c.in-Err.ensures.refused)
    (λ is. subst (λ (p : PagerSideValue). kind_of c.args.key p.pager.list.entries ≡ None) c.pager.view_is (c.in-Err.ensures.grows (ap Err is)))
    (ap (λ (p : PagerState). record { pager = p; saves = c.pager.inside.saves; drops = c.pager.inside.drops }) c.in-Err.ensures.err ∙ c.pager.view_is)

pub returns-clause-admitted : goal.returns-clause-admitted
returns-clause-admitted g c =
    admits c.args.key c.args.pager.now _ c.args.process.now c.in-Ok.frame (sym c.in_default.is ∙ c.page_bars.ensures)
    (sym (ap (λ (p : PagerSideValue). admission_refused c.args.key p.pager) c.pager.view_is) ∙ c.in-Ok.ensures.ok)
    (sym (ap (λ (p : PagerSideValue). p.pager.free) c.pager.view_is) ∙ c.in-Ok.ensures.frame)
    c.in-Ok.ensures.whole
    (ap (λ (p : PagerState). record { pager = p; saves = c.pager.inside.saves; drops = c.pager.inside.drops }) c.in-Ok.ensures.admitted
    ∙ ap (λ (p : PagerSideValue). record p { pager = admitted_with c.args.key c.admit.new.self.free p.pager }) c.pager.view_is)
    c.in-Ok.ensures.lawful
