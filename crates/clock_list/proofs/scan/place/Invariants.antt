-- no entry passed so far has the key
use Rattle.std.proofs.Common.{◌≡◌, ◌+◌, drop}
use Rattle.clock_policy.specs.ClockPro.{place}
use Rattle.clock_list.proofs.scan.place.Given as goal

abbrev pub invariant-loop-i : goal.invariant-loop-i
invariant-loop-i l = place l.key l.entries ≡ l.i + place l.key (drop l.i l.entries)
