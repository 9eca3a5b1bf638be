use Rattle.std.proofs.Common.{◌≡◌, ℕ, ◌+◌, ◌-◌, ◌^◌, ◌<◌, ◌≤◌, length, slice_index_or}
use Rattle.flat_machine.specs.declared.schedule.Turn.{Turn}
use Rattle.run_records.proofs.record.are_joined.Given as goal

-- The turns before the next one are joined.
abbrev pub invariant-turns : goal.invariant-turns
invariant-turns l = record {
  some : (k : ℕ) (d : Turn) → k < l.number → 0 < (slice_index_or l.turns k d).count;
  small : (k : ℕ) (d : Turn) → k < l.number → (slice_index_or l.turns k d).count ≤ 2 ^ 32 - 1;
  joined : (k : ℕ) (d : Turn) → k + 1 < l.number → (slice_index_or l.turns k d).hart ≡ (slice_index_or l.turns (k + 1) d).hart → (slice_index_or l.turns k d).count ≡ 2 ^ 32 - 1;
}
