-- What is told of each of a list, one more at a time.
use Rattle.std.proofs.Common.{◌≡◌, ◌<◌, ℕ, ◌+◌, List, [], ◌∷◌, ◌++◌, length, take, get_or, map, refl, sym, ap, ◌∙◌}
use Rattle.std.proofs.lemmas.List.{take_more}

module _ {A B : Type 0} (f : A → B) where
  pub map_push : (xs : List A) (x : A) → map f (xs ++ x ∷ []) ≡ map f xs ++ f x ∷ []
  map_push [] x = refl
  map_push (z ∷ zs) x = ap (λ l. f z ∷ l) (map_push zs x)

  -- one more of a list, by its place
  pub told_next : (xs : List A) (i : ℕ) (x : A) (told : List B) (y : B) → i < length xs → told ≡ map f (take i xs) → y ≡ f (get_or xs i x) → told ++ y ∷ [] ≡ map f (take (i + 1) xs)
  told_next xs i x told y small before is =
      ap (λ (l : List B). l ++ y ∷ []) before ∙ ap (λ (b : B). map f (take i xs) ++ b ∷ []) is
      ∙ sym (ap (map f) (take_more xs i x small) ∙ map_push (take i xs) (get_or xs i x))

module _ {A B C : Type 0} (f : A → B) (g : C → B) where
  -- one more of what is shown of a list, by its place
  pub shown_next : (xs : List A) (i : ℕ) (x : A) (shown : List C) (y : C) → i < length xs → map g shown ≡ map f (take i xs) → g y ≡ f (get_or xs i x) → map g (shown ++ y ∷ []) ≡ map f (take (i + 1) xs)
  shown_next xs i x shown y small before is = map_push g shown y ∙ told_next f xs i x (map g shown) (g y) small before is
