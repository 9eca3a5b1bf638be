use Rattle.std.proofs.Common.{◌≡◌, ◌≤◌, List}
use Rattle.clock_policy.specs.declared.key.Key.{Key}
use Rattle.page_policies.specs.NextUses.{next_uses}
use Rattle.whole_strings.proofs.PlaceStepLaws.{Served}
use Rattle.whole_strings.proofs.optimum.count_misses.Given as goal

abbrev pub invariant-loop-at : goal.invariant-loop-at
invariant-loop-at l = record {
  few : l.count ≤ l.at;
  served : (string : List Key) → l.uses ≡ next_uses string → Served l.frames.number l.at l.count l.resident.keys string;
}
