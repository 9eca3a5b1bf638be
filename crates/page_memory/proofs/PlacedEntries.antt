-- Page numbers zipped with values: what a page map's entries are.
use Rattle.std.proofs.Common.{◌≡◌, ℕ, zero, suc, List, [], ◌∷◌, ◌++◌, length, zip, map, set, take, arith, refl, ap}
use Rattle.std.proofs.lemmas.Slice.Zip.{length-zip, firsts-zip, seconds-zip}
use Rattle.page_memory.specs.Entries.{with_value}

module _ {T : Type 0} where
  pub pages_are : (pages : List ℕ) (values : List T) → length values ≡ length pages → map (λ (e : ℕ × T). e.0) (zip pages values) ≡ pages
  pages_are pages values same = firsts-zip pages values same

  pub values_are : (pages : List ℕ) (values : List T) → length values ≡ length pages → map (λ (e : ℕ × T). e.1) (zip pages values) ≡ values
  values_are pages values same = seconds-zip pages values same

  pub as_many : (pages : List ℕ) (values : List T) → length values ≡ length pages → length (zip pages values) ≡ length values
  as_many pages values same = let e = length-zip pages values in omega arith

  pub zip_push : (pages : List ℕ) (values : List T) (page : ℕ) (v : T) → length values ≡ length pages → zip (pages ++ page ∷ []) (values ++ v ∷ []) ≡ zip pages values ++ (page, v) ∷ []
  zip_push [] [] page v same = refl
  zip_push [] (w ∷ values) page v same = absurd (omega arith)
  zip_push (q ∷ pages) [] page v same = absurd (omega arith)
  zip_push (q ∷ pages) (w ∷ values) page v same = ap (λ es. (q, w) ∷ es) (zip_push pages values page v (omega arith))

  pub zip_set : (pages : List ℕ) (values : List T) (place : ℕ) (v : T) → zip pages (set values place v) ≡ with_value (zip pages values) place v
  unfolding with_value
  zip_set [] values place v = refl
  zip_set (q ∷ pages) [] place v = refl
  zip_set (q ∷ pages) (w ∷ values) zero v = refl
  zip_set (q ∷ pages) (w ∷ values) (suc place) v = ap (λ es. (q, w) ∷ es) (zip_set pages values place v)

  pub zip_take : (n : ℕ) (pages : List ℕ) (values : List T) → zip (take n pages) (take n values) ≡ take n (zip pages values)
  zip_take zero pages values = refl
  zip_take (suc n) [] values = refl
  zip_take (suc n) (q ∷ pages) [] = refl
  zip_take (suc n) (q ∷ pages) (w ∷ values) = ap (λ es. (q, w) ∷ es) (zip_take n pages values)

pub ruleset of_values = (pages_are, values_are, as_many)
