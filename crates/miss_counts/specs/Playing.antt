-- Counts that are kept as references come.
use Rattle.std.specs.Prelude.{◌≡◌, ℕ, ⊤, ◌+◌, ◌<◌, ◌≤◌, ◌^◌, true, false, List, [], ◌++◌, length, Option, Some, None}
use Rattle.guest_strings.specs.declared.reference.Reference.{Reference}
use Rattle.miss_counts.specs.Counted.{misses_of, serves}
use Rattle.miss_counts.specs.declared.policy_name.PolicyName.{PolicyName}

-- `all` is what is counted, and what would be counted of a string to come.

-- a policy begins where it serves so many frames
abbrev pub Begins : {S : Type 0} → (S → List Reference → ℕ) → ℕ → PolicyName → Option S → Type 0
Begins all frames policy None = serves policy frames ≡ false
Begins all frames policy (Some player) = (serves policy frames ≡ true) × ((string : List Reference) → all player string ≡ misses_of policy frames string)

-- a policy that was asked for, by its name
abbrev pub Opens : {S : Type 0} → (S → List Reference → ℕ) → ℕ → PolicyName → PolicyName × Option S → Type 0
Opens all frames policy named = (named.0 ≡ policy) × Begins all frames policy named.1

-- Some pages are used: what is counted and to come stays the same, as long as the count fits.
abbrev pub GoesOn : {S : Type 0} → (S → List Reference → ℕ) → List Reference → S → S → Type 0
GoesOn all pages s t = all s [] + length pages < 2 ^ 64 → (string : List Reference) → all s (pages ++ string) ≡ all t string

-- and the count grows by no more than there are pages
abbrev pub PlaysPages : {S : Type 0} → (S → List Reference → ℕ) → List Reference → S → S → Type 0
PlaysPages all pages s t = GoesOn all pages s t × (all t [] ≤ all s [] + length pages)

-- What was counted is left out from now on.
abbrev pub StartsAnew : {S : Type 0} → (S → List Reference → ℕ) → S → S → Type 0
StartsAnew all s t = (string : List Reference) → all s string ≡ all s [] + all t string

-- the same of a policy that serves so many frames; of one that does not nothing is counted
abbrev pub Where : {S : Type 0} → (S → S → Type 0) → Option S → Option S → Type 0
Where R None None = ⊤
Where R None (Some t) = ⊥
Where R (Some s) None = ⊥
Where R (Some s) (Some t) = R s t
