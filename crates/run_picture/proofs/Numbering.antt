-- Lists by their places, one more at a time.
use Rattle.std.proofs.Common.{◌≡◌, ℕ, zero, suc, ◌+◌, List, [], ◌∷◌, ◌++◌, length, take, map, Some, slice_get, refl, ap, add-one, arith}
use Rattle.std.specs.List.{enumerate_from}

module _ {A B : Type 0} (f : ℕ × A → B) where
  -- one more of a list, told by its place
  pub numbered_more : (xs : List A) (i : ℕ) (x : A) → Some x ≡ slice_get xs i → map f (take (i + 1) (enumerate_from 0 xs)) ≡ map f (take i (enumerate_from 0 xs)) ++ f (i, x) ∷ []
  numbered_more xs i x h = let m : 0 + i ≡ i = omega arith in let step = from 0 xs i x h in rw add-one (rw m at step)
    where
      from : (n : ℕ) (xs : List A) (i : ℕ) (x : A) → Some x ≡ slice_get xs i → map f (take (suc i) (enumerate_from n xs)) ≡ map f (take i (enumerate_from n xs)) ++ f (n + i, x) ∷ []
      from n [] i x h = cc
      from n (z ∷ zs) zero x h = let e : x ≡ z = cc in let m : n + 0 ≡ n = omega arith in rw (m, e) refl
      from n (z ∷ zs) (suc i) x h = let m : n + 1 + i ≡ n + suc i = omega arith in ap (λ l. f (n, z) ∷ l) (rw (← m) (from (n + 1) zs i x h))

  -- all of a list
  pub numbered_all : (xs : List A) (i : ℕ) → length xs ≡ i → map f (take i (enumerate_from 0 xs)) ≡ map f (enumerate_from 0 xs)
  numbered_all xs i h = from 0 xs i h
    where
      from : (n : ℕ) (xs : List A) (i : ℕ) → length xs ≡ i → map f (take i (enumerate_from n xs)) ≡ map f (enumerate_from n xs)
      from n [] i h = grind arith
      from n (z ∷ zs) zero h = absurd (omega arith)
      from n (z ∷ zs) (suc i) h = ap (λ l. f (n, z) ∷ l) (from (n + 1) zs i (omega arith))
