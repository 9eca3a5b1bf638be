use Rattle.std.proofs.Common.{◌≡◌, ◌≤◌, ◌++◌, drop, vec_len, vec_capacity}
use Rattle.std.specs.Prelude.{filter, not}
use Rattle.clock_policy.specs.ClockPro.{is_of_process}
use Rattle.clock_list.proofs.rebuild.rebuild_without_process.Given as goal

abbrev pub invariant-loop-entry : goal.invariant-loop-entry
invariant-loop-entry l = record {
  items : l.to.items ++ filter (λ e. not (is_of_process l.process e)) (drop l.entry-index l.entries) ≡ filter (λ e. not (is_of_process l.process e)) l.entries;
  len : vec_len l.to ≤ l.entry-index;
  capacity : vec_capacity l.initial.to ≤ vec_capacity l.to;
}
