-- As many workers were started as were tried, unless the daemon or one of them could not be.
use Rattle.std.proofs.Common.{◌≡◌, ◌≤◌, true}
use Rattle.hart_carriers.proofs.threads.fn.run_threads.scope.Given as goal

abbrev pub invariant-loop-worker : goal.invariant-loop-worker
invariant-loop-worker g l = record { slice : l.crew.slice ≡ l.slice; ahead : l.crew.ahead ≡ l.initial.crew.ahead; few : l.crew.workers ≤ l.worker; all : l.crew.is_whole ≡ true → l.crew.workers ≡ l.worker }
