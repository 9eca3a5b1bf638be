-- A loop that changes each element of a list in turn.
use Rattle.std.proofs.Common.{◌≡◌, ℕ, zero, suc, ◌+◌, ◌<◌, ◌≤◌, refl, ap, ◌∙◌, arith, List, [], ◌∷◌, ◌++◌, length, get_or, set, take, drop, map, add-one}
use Rattle.std.specs.List.{refill}
use Rattle.std.proofs.Math.ListN.{length-set}
use Rattle.std.proofs.lemmas.List.{length-map, take_all, drop_all, append-nil}

module _ {A : Type 0} (f : A → A) where
  -- the list with its first elements changed
  unfoldable pub mapped_below : List A → ℕ → List A
  mapped_below xs i = map f (take i xs) ++ drop i xs

  mapped_suc : (xs : List A) (i : ℕ) (d : A) → i < length xs → set (mapped_below xs i) i (f (get_or (mapped_below xs i) i d)) ≡ mapped_below xs (suc i)
  unfolding mapped_below
  mapped_suc [] i d within = absurd (omega arith)
  mapped_suc (x ∷ xs) zero d within = refl
  mapped_suc (x ∷ xs) (suc i) d within = ap (λ l. f x ∷ l) (mapped_suc xs i d (omega arith))

  pub mapped_more : (xs : List A) (i : ℕ) (d : A) → i < length xs → set (mapped_below xs i) i (f (get_or (mapped_below xs i) i d)) ≡ mapped_below xs (i + 1)
  mapped_more xs i d within = rw add-one (mapped_suc xs i d within)

  pub mapped_none : (xs : List A) → mapped_below xs 0 ≡ xs
  unfolding mapped_below
  mapped_none xs = refl

  pub mapped_all : (xs : List A) (i : ℕ) → length xs ≤ i → mapped_below xs i ≡ map f xs
  unfolding mapped_below
  mapped_all xs i past = rw (take_all i xs past, drop_all i xs past) (append-nil (map f xs))

  -- a list that was lent as a slice and changed so
  pub refilled : (xs ws : List A) → ws ≡ map f xs → refill (length xs) xs ws ≡ map f xs
  refilled xs ws made = same ∙ made
    where
      long : length ws ≡ length xs
      long = ap length made ∙ length-map xs f

      same : refill (length xs) xs ws ≡ ws
      same = let past : length xs ≤ length ws = omega (arith, long) in rw (drop_all (length ws) xs past, append-nil ws) (take_all (length xs) ws (omega (arith, long)))

-- a list that was lent as a slice, in which one element was changed, or stayed
pub refilled_at : {A : Type 0} (xs : List A) (k : ℕ) (w : A) → refill (length xs) xs (set xs k w) ≡ set xs k w
refilled_at xs k w =
    let long : length (set xs k w) ≡ length xs = length-set xs k w in
    let past : length xs ≤ length (set xs k w) = omega (arith, long) in
    rw (drop_all (length (set xs k w)) xs past, append-nil (set xs k w)) (take_all (length xs) (set xs k w) (omega (arith, long)))

-- the same where each element becomes one value
pub overwritten_more : {A : Type 0} (w : A) (xs : List A) (i : ℕ) → i < length xs → set (mapped_below (λ _. w) xs i) i w ≡ mapped_below (λ _. w) xs (i + 1)
overwritten_more w xs i within = mapped_more (λ _. w) xs i w within
