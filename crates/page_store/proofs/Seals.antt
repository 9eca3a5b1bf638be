-- Digests that were taken, and those that were not.
use Rattle.std.proofs.Common.{◌≡◌, ◌≢◌, ℕ, List, Option, Some, None, refl, sym, ap, ◌∙◌}
use Rattle.std.specs.Prelude.{IfSome}
use Rattle.sha2.specs.Sha256.{sha256}
use Rattle.page_store.specs.Seal.{IsTaken, IsSealed, sealed_digest}

-- an honest slot's page stays, and so does its digest
pub digest_stays : (honest : Type 0) (old new : List ℕ) (digest : Option (List ℕ)) → IsSealed honest old digest → (honest → new ≡ old) → sealed_digest new digest ≡ sealed_digest old digest
digest_stays honest old new None sealed stays = ap sha256 (stays sealed)
digest_stays honest old new (Some taken) sealed stays = refl

pub still_sealed : (honest : Type 0) (old new : List ℕ) (digest : Option (List ℕ)) → IsSealed honest old digest → (honest → new ≡ old) → IsSealed honest new digest
still_sealed honest old new None sealed stays = sealed
still_sealed honest old new (Some taken) sealed stays = λ is. ap sha256 (stays is) ∙ sealed is

-- a page that was loaded, with the digest if one was taken
pub comes_whole : (honest : Type 0) (held page : List ℕ) (digest : Option (List ℕ)) → IsSealed honest held digest → (honest → page ≡ held) → IfSome digest (λ taken. sha256 page ≡ taken)
    → sha256 page ≡ sealed_digest held digest
comes_whole honest held page None sealed loaded has = ap sha256 (loaded sealed)
comes_whole honest held page (Some taken) sealed loaded has = has

-- and without it: the slot lies
pub comes_damaged : (honest : Type 0) (held page : List ℕ) (digest : Option (List ℕ)) → IsSealed honest held digest → (honest → page ≡ held) → (¬ IfSome digest (λ taken. sha256 page ≡ taken))
    → (¬ honest) × (sha256 page ≢ sealed_digest held digest)
comes_damaged honest held page None sealed loaded lacks = absurd (lacks tt)
comes_damaged honest held page (Some taken) sealed loaded lacks = ((λ is. lacks (ap sha256 (loaded is) ∙ sealed is)), lacks)

-- a digest that was taken of what was saved
pub seals_saved : (honest : Type 0) (held saved : List ℕ) (digest : Option (List ℕ)) → IsTaken honest (sha256 saved) digest → (honest → held ≡ saved) → IsSealed honest held digest
seals_saved honest held saved None taken keeps = taken
seals_saved honest held saved (Some digest) taken keeps = λ is. ap sha256 (keeps is) ∙ sym taken

pub saved_digest : (honest : Type 0) (held saved : List ℕ) (digest : Option (List ℕ)) → IsTaken honest (sha256 saved) digest → (honest → held ≡ saved) → sealed_digest held digest ≡ sha256 saved
saved_digest honest held saved None taken keeps = ap sha256 (keeps taken)
saved_digest honest held saved (Some digest) taken keeps = taken
