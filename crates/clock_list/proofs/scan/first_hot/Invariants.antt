-- no entry passed so far is hot
use Rattle.std.proofs.Common.{◌≡◌, drop}
use Rattle.std.specs.Prelude.{find}
use Rattle.clock_policy.specs.ClockPro.{is_hot}
use Rattle.clock_policy.specs.declared.entry.Entry.{Entry}
use Rattle.clock_list.proofs.scan.first_hot.Given as goal

abbrev pub invariant-loop-e : goal.invariant-loop-e
invariant-loop-e l = find {X = Entry} (λ e. is_hot e.kind) l.entries ≡ find {X = Entry} (λ e. is_hot e.kind) (drop l.e-index l.entries)
