use Rattle.std.proofs.Common.{arith}
use Rattle.guest_history.proofs.history.History.last_met.Goals as goal

pub looks-init : goal.looks-init
looks-init c = record { end = omega arith; some = omega arith; clear = λ i low h. absurd (omega (arith, low, h)) }

pub looks-smaller : goal.looks-smaller
looks-smaller c =
    let more = c.looks-test.true in
    let least = c.min.ensures in
    let some = c.looks.invariant.some in
    omega (arith, more, least, some)
