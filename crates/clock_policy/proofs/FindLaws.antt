-- What a search finds, and a second choice where there is none.
use Rattle.std.specs.Prelude.{◌≡◌, Bool, true, false, cond, Option, Some, None, find, List, [], ◌∷◌, refl}
use Rattle.std.specs.Option.{option_or}

pub found_passes : {A : Type 0} (p : A → Bool) (l : List A) (x : A) → find p l ≡ Some x → p x ≡ true
found_passes p [] x h = cc
found_passes {A} p (e ∷ es) x h =
    elim (p e) as (λ t. p e ≡ t → cond t (Some e) (find p es) ≡ Some x → p x ≡ true) [
      | true ↦ λ is g. let same : e ≡ x = cc in rw (← same) is
      | false ↦ λ is g. found_passes p es x g
    ] refl h

pub find_same : {A : Type 0} (p q : A → Bool) → ((x : A) → p x ≡ q x) → (l : List A) → find p l ≡ find q l
find_same p q same [] = refl
find_same p q same (e ∷ es) = rw (same e) (elim (q e) as (λ t. cond t (Some e) (find p es) ≡ cond t (Some e) (find q es)) [ true ↦ refl | false ↦ find_same p q same es ])

pub option_or-none : {A : Type 0} (a : Option A) → option_or a None ≡ a
option_or-none None = refl
option_or-none (Some x) = refl
