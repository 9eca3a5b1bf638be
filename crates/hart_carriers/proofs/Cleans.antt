-- How many pages were cleaned, process by process.
use Rattle.std.proofs.Common.{◌≡◌, ◌≤◌, ◌+◌, ◌-◌, ◌^◌, ◌∙◌, ℕ, List, [], ◌∷◌, min, sum_by, ap, sym, refl, arith}
use Rattle.std.proofs.lemmas.List.Sums.{sum_by-cons}
use Rattle.held_machine.specs.HeldValue.{HeldValue}
use Rattle.hart_carriers.specs.Ending.{cleans_of}

-- a count so far, with the processes that are left
unfoldable pub with_rest : {S : Type 0} → ℕ → List (HeldValue S) → ℕ
with_rest cleans rest = min (cleans + sum_by (λ h. h.cleans) rest) (2 ^ 64 - 1)

capped_more : (cleans more rest : ℕ) → min (min (cleans + more) (2 ^ 64 - 1) + rest) (2 ^ 64 - 1) ≡ min (cleans + (more + rest)) (2 ^ 64 - 1)
capped_more cleans more rest = omega arith

module _ {S : Type 0} where
  pub with_all : (all : List (HeldValue S)) → with_rest 0 all ≡ cleans_of all
  unfolding with_rest cleans_of
  with_all all = omega arith

  pub with_one : (cleans : ℕ) (held : HeldValue S) (rest : List (HeldValue S)) → with_rest (min (cleans + held.cleans) (2 ^ 64 - 1)) rest ≡ with_rest cleans (held ∷ rest)
  unfolding with_rest
  with_one cleans held rest =
      let cons : sum_by (λ h. h.cleans) (held ∷ rest) ≡ held.cleans + sum_by (λ h. h.cleans) rest = sum_by-cons (λ (h : HeldValue S). h.cleans) held rest in
      capped_more cleans held.cleans (sum_by (λ h. h.cleans) rest) ∙ ap (λ n. min (cleans + n) (2 ^ 64 - 1)) (sym cons)

  pub with_none : (cleans : ℕ) (rest : List (HeldValue S)) → rest ≡ [] → cleans ≤ 2 ^ 64 - 1 → with_rest cleans rest ≡ cleans
  unfolding with_rest
  with_none cleans [] none small =
      let nothing : sum_by (λ (h : HeldValue S). h.cleans) [] ≡ 0 = refl in
      omega (arith, nothing, small)
  with_none cleans (held ∷ rest) none small = absurd (cc)
