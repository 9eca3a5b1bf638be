-- A policy that knows which references write is a way to serve a string: a proof.
use Rattle.std.specs.Prelude.{ℕ, ◌+◌, Bool, cond, List, [], ◌∷◌, refl}
use Rattle.std.proofs.Common.{ap}
use Rattle.clock_policy.specs.declared.key.Key.{Key}
use Rattle.page_policies.specs.Demand.{Plays}
use Rattle.page_policies.proofs.PartLaws.{Serves}
use Rattle.ticked_policies.specs.declared.page_use.PageUse.{PageUse}
use Rattle.ticked_policies.specs.Uses.{pages_of, misses}

pub uses_played : {S : Type 0} → (m : ℕ) (pages : S → List Key) (lawful : S → Type 0) (held : Key → S → Bool) (next : PageUse → S → S)
    → ((r : PageUse) (s : S) → lawful s → Serves m pages lawful held r.page s (next r s)) → (s : S) (string : List PageUse) → lawful s → Plays m (pages s) (pages_of string) (misses held next s string)
uses_played m pages lawful held next serves s [] so = refl
uses_played m pages lawful held next serves s (r ∷ rs) so = let now : Serves m pages lawful held r.page s (next r s) = serves r s so in (
  pages (next r s),
  (misses held next (next r s) rs, (now.leaves, (ap (λ (b : Bool). cond b 0 1 + misses held next (next r s) rs) now.found, uses_played m pages lawful held next serves (next r s) rs now.lawful_after))),
)
