use Rattle.std.proofs.Common.{◌≡◌, ◌+◌, ◌≤◌, length}
use Rattle.frame_pool.proofs.frame.gather.Given as goal

abbrev pub invariant-loop-frame : goal.invariant-loop-frame
invariant-loop-frame g l =
    record { merged : l.all.parts ≡ l.initial.all.parts + length l.yielded; within : l.all.parts ≤ g.L.Ledger.parts }
