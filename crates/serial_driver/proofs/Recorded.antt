-- A schedule, one more turn.
use Rattle.std.proofs.Common.{◌≡◌, ℕ, zero, suc, ◌+◌, List, [], ◌∷◌, length, take, Some, slice_get, replicate, ap, arith}
use Rattle.std.proofs.Math.ListN.{length-replicate, length-append}
use Rattle.flat_machine.specs.declared.schedule.Turn.{Turn}
use Rattle.flat_machine.specs.Schedule.{written_out}

pub written_more : (turns : List Turn) (i : ℕ) (turn : Turn) → slice_get turns i ≡ Some turn → length (written_out (take (suc i) turns)) ≡ length (written_out (take i turns)) + turn.count
written_more [] i turn h = cc
written_more (z ∷ zs) zero turn h =
    let same : z ≡ turn = cc in
    let e : z.count ≡ turn.count = ap (λ (t : Turn). t.count) same in
    omega (arith, e, length-append (replicate z.count z.hart) [], length-replicate z.count z.hart)
written_more (z ∷ zs) (suc i) turn h =
    omega (arith, length-append (replicate z.count z.hart) (written_out (take (suc i) zs)), length-append (replicate z.count z.hart) (written_out (take i zs)), written_more zs i turn h)
