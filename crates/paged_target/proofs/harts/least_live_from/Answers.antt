use Rattle.std.proofs.Common.{◌∙◌, ◌≤◌, arith, sym, length}
use Rattle.paged_target.specs.Marks.{marks_at}
use Rattle.env_calls.proofs.LiveLaws.{least_none}
use Rattle.paged_target.proofs.Turning.{least_above, least_here, mark_is}
use Rattle.paged_target.proofs.harts.least_live_from.Goals as goal

pub returns-then-is_live : goal.returns-then-is_live
returns-then-is_live g c =
    record { least = sym (c.harts.invariant ∙ least_here c.harts.hart (marks_at c.args.core.now) (sym (mark_is c.args.core.now c.harts.hart) ∙ sym c.is_live.ensures ∙ c.if-is_live.true)) }

pub harts-preserved : goal.harts-preserved
harts-preserved g c = c.harts.invariant ∙ least_above c.harts.hart (marks_at c.args.core.now) (sym (mark_is c.args.core.now c.harts.hart) ∙ sym c.is_live.ensures ∙ c.if-is_live.false)

pub returns : goal.returns
returns g c =
    let end = c.harts-test.false in
    let few = c.requires.few in
    record { least = sym (c.harts.invariant ∙ least_none c.harts.hart (marks_at c.args.core.now) (omega (arith, end, few))) }
