use Rattle.std.proofs.Common.{◌≡◌, ◌+◌, ◌≤◌, ◌++◌, drop, vec_len, vec_capacity}
use Rattle.clock_policy.specs.ClockPro.{trimmed_part, trimmed_tests}
use Rattle.clock_list.proofs.rebuild.push_trimmed.Given as goal

abbrev pub invariant-loop-i : goal.invariant-loop-i
invariant-loop-i l = record {
  items : l.to.items ++ trimmed_part (drop l.i l.part) ≡ l.initial.to.items ++ trimmed_part l.part;
  tests : l.tests + trimmed_tests (drop l.i l.part) ≡ trimmed_tests l.part;
  few : l.tests ≤ l.i;
  len : vec_len l.to ≤ vec_len l.initial.to + l.i;
  capacity : vec_capacity l.initial.to ≤ vec_capacity l.to;
}
