use Rattle.std.proofs.Common.{◌≡◌, ◌+◌, ◌≤◌, ◌++◌, List, drop}
use Rattle.guest_strings.specs.declared.reference.Reference.{Reference}
use Rattle.miss_counts.specs.StringPages.{pages_of}
use Rattle.miss_counts.proofs.player.misses_of.Given as goal

-- what is counted and what is to come make the whole
abbrev pub invariant-references : goal.invariant-references
invariant-references g l = record {
  whole : (string : List Reference) → g.P.Policy.to_miss l.initial.policy (pages_of (l.references ++ string)) ≡ l.count + g.P.Policy.to_miss l.policy (pages_of (drop l.reference-index l.references ++ string));
  few : l.count ≤ l.reference-index;
}
