use Rattle.std.proofs.Common.{◌≤◌, ◌<◌, length, slice_index_or, IfSome}
use Rattle.guest_history.specs.declared.checkpoints.Checkpoint.{Checkpoint}
use Rattle.guest_history.proofs.checkpoints.Checkpoints.number_before.Given as goal

-- what was found is after no more steps
abbrev pub invariant-copies : goal.invariant-copies
invariant-copies l = record {
  within : IfSome l.found (λ number. number < length l.self.copies.items);
  before : IfSome l.found (λ number. (kept : Checkpoint) → (slice_index_or l.self.copies.items number kept).done ≤ l.step);
}
