-- What holds of each process that was looked at, one after another.
use Rattle.std.proofs.Common.{◌≡◌, ℕ, ◌+◌, ◌<◌, ◌≤◌, List, Some, length, slice_index_or, slice_get, subst, sym, ◌∙◌, ⊎_elim, eq-or-lt_of_le, arith}
use Rattle.std.proofs.lemmas.Option.{slice_get-get_or, same_Some}

pub each_more : {A : Type 0} (P : A → Type 0) (all : List A) (k : ℕ) (x : A) → k < length all → x ≡ slice_index_or all k x → P x → ((i : ℕ) (d : A) → i < k → P (slice_index_or all i d))
    → (i : ℕ) (d : A) → i < k + 1 → P (slice_index_or all i d)
each_more {A} P all k x small is holds so_far i d below =
    let within : i ≤ k = omega (arith, below) in
    ⊎_elim
    (λ (here : i ≡ k).
    let same : slice_index_or all k x ≡ slice_index_or all k d = same_Some _ _ (sym (slice_get-get_or all k x small) ∙ slice_get-get_or all k d small) in
    subst (λ (n : ℕ). P (slice_index_or all n d)) (sym here) (subst P (is ∙ same) holds))
    (λ (less : i < k). so_far i d less)
    (eq-or-lt_of_le within)
