-- A turn gets no longer while its hart waits for a page.
use Rattle.std.proofs.Common.{◌≤◌}
use Rattle.hart_carriers.proofs.paging_in.bring_in.Given as goal

abbrev pub invariant-tries : goal.invariant-tries
invariant-tries g l = l.seat.left ≤ l.fn.seat.left
