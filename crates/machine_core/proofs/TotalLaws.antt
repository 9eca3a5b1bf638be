-- Sums over a list of which one place changes.
use Rattle.std.proofs.Common.{◌≡◌, ℕ, zero, suc, ◌+◌, ◌≤◌, List, [], ◌∷◌, Some, slice_get, ◌⊎◌, inl, inr, refl, ap, arith, sym}
use Rattle.std.specs.Prelude.{slice_set, All}
use Rattle.std.proofs.lemmas.List.Elements.{All-nil, All-cons, All-head, All-tail}
use Rattle.machine_core.specs.Machine.{total}

module _ {A : Type 0} (f : A → ℕ) where
  pub total_set : (xs : List A) (i : ℕ) (x y : A) → slice_get xs i ≡ Some x → total f (slice_set xs i y) + f x ≡ total f xs + f y
  unfolding total
  total_set [] i x y h = cc
  total_set (z ∷ zs) zero x y h = let same : z ≡ x = cc in let e : f z ≡ f x = ap f same in omega (arith, e)
  total_set (z ∷ zs) (suc i) x y h = omega (arith, total_set zs i x y h)

  -- a place counts no more than all
  pub total_at : (xs : List A) (i : ℕ) (x : A) → slice_get xs i ≡ Some x → f x ≤ total f xs
  unfolding total
  total_at [] i x h = cc
  total_at (z ∷ zs) zero x h = let same : z ≡ x = cc in let e : f z ≡ f x = ap f same in omega (arith, e)
  total_at (z ∷ zs) (suc i) x h = omega (arith, total_at zs i x h)

module _ {A : Type 0} where
  -- what stands in a list of which one place changed
  pub got_set : (xs : List A) (p i : ℕ) (y q : A) → slice_get (slice_set xs p y) i ≡ Some q → ((i ≡ p) × (q ≡ y)) ⊎ (slice_get xs i ≡ Some q)
  got_set [] p i y q h = cc
  got_set (z ∷ zs) zero zero y q h = inl (refl, cc)
  got_set (z ∷ zs) zero (suc i) y q h = inr h
  got_set (z ∷ zs) (suc p) zero y q h = inr h
  got_set (z ∷ zs) (suc p) (suc i) y q h = elim (got_set zs p i y q h) [ inl e ↦ inl (ap suc e.0, e.1) | inr e ↦ inr e ]

  pub get_set_same : (xs : List A) (p : ℕ) (x y : A) → slice_get xs p ≡ Some x → slice_get (slice_set xs p y) p ≡ Some y
  get_set_same [] p x y h = cc
  get_set_same (z ∷ zs) zero x y h = refl
  get_set_same (z ∷ zs) (suc p) x y h = get_set_same zs p x y h

  pub set_back : (xs : List A) (p : ℕ) (x : A) → slice_get xs p ≡ Some x → slice_set xs p x ≡ xs
  set_back [] p x h = cc
  set_back (z ∷ zs) zero x h = let e : z ≡ x = cc in ap (λ y. y ∷ zs) (sym e)
  set_back (z ∷ zs) (suc p) x h = ap (λ l. z ∷ l) (set_back zs p x h)

  pub get_set_other : (xs : List A) (p i : ℕ) (y : A) → (i ≡ p → ⊥) → slice_get (slice_set xs p y) i ≡ slice_get xs i
  get_set_other [] p i y h = refl
  get_set_other (z ∷ zs) zero zero y h = absurd (h refl)
  get_set_other (z ∷ zs) zero (suc i) y h = refl
  get_set_other (z ∷ zs) (suc p) zero y h = refl
  get_set_other (z ∷ zs) (suc p) (suc i) y h = get_set_other zs p i y (λ e. h (ap suc e))

  pub All_map : (P Q : A → Type 0) → ((x : A) → P x → Q x) → (xs : List A) → All P xs → All Q xs
  All_map P Q f [] h = All-nil _
  All_map P Q f (x ∷ xs) h = All-cons Q x xs (f x (All-head P x xs h)) (All_map P Q f xs (All-tail P x xs h))
