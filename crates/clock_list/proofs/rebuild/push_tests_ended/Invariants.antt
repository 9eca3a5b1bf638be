use Rattle.std.proofs.Common.{◌≡◌, ◌+◌, ◌≤◌, ◌++◌, drop, vec_len, vec_capacity}
use Rattle.clock_policy.specs.ClockPro.{tests_ended}
use Rattle.clock_list.proofs.rebuild.push_tests_ended.Given as goal

abbrev pub invariant-loop-entry : goal.invariant-loop-entry
invariant-loop-entry l = record {
  items : l.to.items ++ tests_ended (drop l.entry-index l.passed) ≡ l.initial.to.items ++ tests_ended l.passed;
  len : vec_len l.to ≤ vec_len l.initial.to + l.entry-index;
  capacity : vec_capacity l.initial.to ≤ vec_capacity l.to;
}
