-- no entry passed so far is cold
use Rattle.std.proofs.Common.{◌≡◌, drop}
use Rattle.std.specs.Prelude.{find}
use Rattle.clock_policy.specs.ClockPro.{is_cold}
use Rattle.clock_policy.specs.declared.entry.Entry.{Entry}
use Rattle.clock_list.proofs.scan.first_cold.Given as goal

abbrev pub invariant-loop-e : goal.invariant-loop-e
invariant-loop-e l = find {X = Entry} (λ e. is_cold e.kind) l.entries ≡ find {X = Entry} (λ e. is_cold e.kind) (drop l.e-index l.entries)
