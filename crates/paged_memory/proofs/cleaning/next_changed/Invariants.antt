use Rattle.std.proofs.Common.{◌≡◌, ℕ, ◌<◌, ◌≤◌, ◌-◌, ◌^◌, false}
use Rattle.paged_memory.specs.cleaning.Cleaning.{is_changed_resident}
use Rattle.paged_memory.proofs.cleaning.next_changed.Given as goal

abbrev pub invariant-loop-vpn : goal.invariant-loop-vpn
invariant-loop-vpn g l = record {
  before : (q : ℕ) → l.from ≤ q → q < l.next → is_changed_resident l.pages l.tables q ≡ false;
  looked : l.from ≤ l.next;
}

abbrev pub decreases-loop-vpn : goal.decreases-loop-vpn
decreases-loop-vpn g l = 2 ^ 20 - l.next
