use Rattle.std.proofs.Common.{◌≡◌, ◌+◌, ◌≤◌, drop}
use Rattle.page_policies.proofs.policy.misses.Given as goal

-- what is counted and what is to come make the whole
abbrev pub invariant-loop-page : goal.invariant-loop-page
invariant-loop-page g l = record {
  whole : l.count + g.P.Policy.to_miss l.policy (drop l.page-index l.string) ≡ g.P.Policy.misses l.fn.frames.number l.string;
  few : l.count ≤ l.page-index;
}
