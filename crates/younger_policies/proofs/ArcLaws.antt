-- A list that holds a page has one: a proof.
use Rattle.std.specs.Prelude.{◌≡◌, ◌≤◌, true, List, [], ◌∷◌, length}
use Rattle.std.proofs.Common.{arith}
use Rattle.clock_policy.specs.declared.key.Key.{Key}
use Rattle.page_policies.specs.Strings.{holds}

pub some_held : (p : Key) (s : List Key) → holds p s ≡ true → 1 ≤ length s
some_held p [] h = cc
some_held p (q ∷ qs) h = omega arith
