-- As many are unlocked as were passed, and the room stays.
use Rattle.std.proofs.Common.{◌≡◌, length, vec_capacity}
use Rattle.reclaim_daemon.proofs.process_locks.unlock_all.Given as goal

abbrev pub invariant-loop-lock : goal.invariant-loop-lock
invariant-loop-lock g l = record { many : length l.all.items ≡ length l.yielded; room : vec_capacity l.all ≡ vec_capacity l.fn.room }
