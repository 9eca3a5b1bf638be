use Rattle.std.proofs.Common.{◌<◌, None, length, get_or, set, ap, ◌∙◌, arith}
use Rattle.page_memory.specs.Reservations.{unless_touched}
use Rattle.page_memory.proofs.Reserving.{left_more}
use Rattle.page_memory.proofs.reservations.end_all.Goals as goal

pub loop-hart-preserved : goal.loop-hart-preserved
loop-hart-preserved c =
    let long = c.told-by_hart in
    let low = c.loop-hart-test.true in
    let within : c.loop-hart.hart < length c.args.by_hart.now = omega arith in
    ap (set c.loop-hart.by_hart c.loop-hart.hart) c.left.ensures
    ∙ ap (λ l. set l c.loop-hart.hart (unless_touched c.args.address c.args.count (get_or l c.loop-hart.hart None))) c.loop-hart.invariant
    ∙ left_more c.args.address c.args.count c.args.by_hart.now c.loop-hart.hart None within
