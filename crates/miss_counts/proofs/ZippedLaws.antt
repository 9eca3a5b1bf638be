-- Two lists place by place, and a loop that changes each item in turn.
use Rattle.std.specs.Prelude.{◌≡◌, ℕ, zero, suc, ◌+◌, ◌<◌, ◌≤◌, List, [], ◌∷◌, ◌++◌, length, take, drop, slice_index_or, slice_set, refl, ⊤}
use Rattle.std.specs.List.{AllZip}
use Rattle.std.proofs.lemmas.List.{take_all, drop_all, append-nil}
use Rattle.std.proofs.Common.{add-one, arith, ap, sym, subst, ◌∙◌}

module _ {A B : Type 0} (R : A → B → Type 0) where
  more : (i : ℕ) (xs : List A) (d : A) (ys : List B) (y : B) → i < length xs → AllZip R (take i xs) ys → R (slice_index_or xs i d) y → AllZip R (take (suc i) xs) (ys ++ y ∷ [])
  more i [] d ys y h zipped is = absurd (omega (arith, h))
  more zero (x ∷ xs) d [] y h zipped is = (is, tt)
  more zero (x ∷ xs) d (z ∷ ys) y h zipped is = absurd zipped
  more (suc i) (x ∷ xs) d [] y h zipped is = absurd zipped
  more (suc i) (x ∷ xs) d (z ∷ ys) y h zipped is = (zipped.0, more i xs d ys y (omega (arith, h)) zipped.1 is)

  -- one item more
  pub zip_more : (i : ℕ) (xs : List A) (d : A) (ys new : List B) (y : B) → i < length xs → AllZip R (take i xs) ys → R (slice_index_or xs i d) y → new ≡ ys ++ y ∷ [] → AllZip R (take (i + 1) xs) new
  zip_more i xs d ys new y h zipped is pushed = subst (λ (l : List B). AllZip R (take (i + 1) xs) l) (sym pushed) (rw add-one (more i xs d ys y h zipped is))

-- The first items are changed, and the others are the same.
module _ {A : Type 0} (R : A → A → Type 0) where
  abbrev pub Below : List A → ℕ → List A → Type 0
  Below [] i [] = ⊤
  Below [] i (y ∷ ys) = ⊥
  Below (x ∷ xs) i [] = ⊥
  Below (x ∷ xs) zero (y ∷ ys) = y ∷ ys ≡ x ∷ xs
  Below (x ∷ xs) (suc i) (y ∷ ys) = R x y × Below xs i ys

  pub below_none : (xs : List A) → Below xs 0 xs
  below_none [] = tt
  below_none (x ∷ xs) = refl

  same : (xs ys : List A) → ys ≡ xs → Below xs 0 ys
  same xs ys is = subst (λ (l : List A). Below xs 0 l) (sym is) (below_none xs)

  parts : (x y : A) (xs ys : List A) → y ∷ ys ≡ x ∷ xs → (y ≡ x) × (ys ≡ xs)
  parts x y xs ys e = (cc, cc)

  next : (i : ℕ) (xs ys : List A) (d w : A) → i < length xs → Below xs i ys → R (slice_index_or ys i d) w → Below xs (suc i) (slice_set ys i w)
  next i [] [] d w h below is = absurd (omega (arith, h))
  next i [] (y ∷ ys) d w h below is = absurd below
  next i (x ∷ xs) [] d w h below is = absurd below
  next zero (x ∷ xs) (y ∷ ys) d w h below is = let e : (y ≡ x) × (ys ≡ xs) = parts x y xs ys below in (subst (λ (z : A). R z w) e.0 is, same xs ys e.1)
  next (suc i) (x ∷ xs) (y ∷ ys) d w h below is = (below.0, next i xs ys d w (omega (arith, h)) below.1 is)

  pub below_more : (i : ℕ) (xs ys : List A) (d w : A) → i < length xs → Below xs i ys → R (slice_index_or ys i d) w → Below xs (i + 1) (slice_set ys i w)
  below_more i xs ys d w h below is = rw add-one (next i xs ys d w h below is)

  pub below_all : (i : ℕ) (xs ys : List A) → length xs ≤ i → Below xs i ys → AllZip R xs ys
  below_all i [] [] h below = tt
  below_all i [] (y ∷ ys) h below = absurd below
  below_all i (x ∷ xs) [] h below = absurd below
  below_all zero (x ∷ xs) (y ∷ ys) h below = absurd (omega (arith, h))
  below_all (suc i) (x ∷ xs) (y ∷ ys) h below = (below.0, below_all i xs ys (omega (arith, h)) below.1)

  long : (i : ℕ) (xs ys : List A) → Below xs i ys → length ys ≡ length xs
  long i [] [] below = refl
  long i [] (y ∷ ys) below = absurd below
  long i (x ∷ xs) [] below = absurd below
  long zero (x ∷ xs) (y ∷ ys) below = ap length below
  long (suc i) (x ∷ xs) (y ∷ ys) below = ap suc (long i xs ys below.1)

  -- the same of a list that was lent as a slice
  pub below_lent : (i n : ℕ) (xs lent ys : List A) → lent ≡ xs → n ≡ length xs → length lent ≤ i → Below lent i ys → AllZip R xs (take n (ys ++ drop (length ys) xs))
  below_lent i n xs lent ys is size end below = subst (λ (l : List A). AllZip R xs l) (sym back) (subst (λ (l : List A). AllZip R l ys) is (below_all i lent ys end below))
    where
      same_long : length ys ≡ length xs
      same_long = long i lent ys below ∙ ap length is

      back : take n (ys ++ drop (length ys) xs) ≡ ys
      back = let past : length xs ≤ length ys = omega (arith, same_long) in
          let few : length ys ≤ n = omega (arith, same_long, size) in rw (drop_all (length ys) xs past, append-nil ys) (take_all n ys few)
