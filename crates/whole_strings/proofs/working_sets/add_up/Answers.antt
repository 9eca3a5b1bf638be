-- One window after another.
use Rattle.std.proofs.Common.{◌∙◌, ◌+◌, ◌<◌, ◌^◌, ap, length, min, arith, rules}
use Rattle.whole_strings.proofs.WorkingSetLaws.{counted_curve, counted_on, counted_opens}
use Rattle.whole_strings.proofs.working_sets.add_up.Goals as goal

pub windows-init : goal.windows-init
windows-init c = λ string tells brings. counted_opens c.new-curve.result.items c.args.ahead.now c.args.again.now string c.new-curve.ensures.items

pub windows-preserved : goal.windows-preserved
windows-preserved c = λ string tells brings.
    let small : length c.args.ahead.now < 2 ^ 63 = search rules in
    counted_on c.windows.window c.windows.sizes _ c.windows.below _ c.windows.found _ _ c.windows.curve.items _ c.args.ahead.now c.args.again.now string small tells brings
    (c.windows.invariant string tells brings)
    (c.saturating_add-sizes.ensures ∙ ap (λ n. min (c.windows.sizes + n) 18446744073709551615) c.saturating_sub.ensures) c.saturating_add-below.ensures c.saturating_add-found.ensures c.saturating_sub-misses.ensures c.in_ok-push.ensures.items

pub returns : goal.returns
returns c = λ string tells brings.
    counted_curve c.windows.window c.windows.sizes c.windows.below c.windows.found c.windows.curve.items c.args.ahead.now c.args.again.now string
    (let past = c.windows-test.false in let end = c.windows.auto.window-end in omega (arith, past, end)) tells (c.windows.invariant string tells brings)
