-- no entry passed so far has the key
use Rattle.std.proofs.Common.{◌≡◌, drop}
use Rattle.std.specs.Prelude.{find}
use Rattle.clock_policy.specs.ClockPro.{has_key}
use Rattle.clock_policy.specs.declared.entry.Entry.{Entry}
use Rattle.clock_list.proofs.scan.entry_of.Given as goal

abbrev pub invariant-loop-e : goal.invariant-loop-e
invariant-loop-e l = find {X = Entry} (has_key l.key) l.entries ≡ find {X = Entry} (has_key l.key) (drop l.e-index l.entries)
