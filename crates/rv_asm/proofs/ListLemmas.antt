-- Lists that are put together from parts.
use Rattle.std.proofs.Common.{◌≡◌, List, [], ◌∷◌, ◌++◌, length, arith, refl, sym, ap}

pub cons_head : {A : Type 0} (x y : A) (xs ys : List A) → x ∷ xs ≡ y ∷ ys → x ≡ y
cons_head x y xs ys e = cc

pub cons_tail : {A : Type 0} (x y : A) (xs ys : List A) → x ∷ xs ≡ y ∷ ys → xs ≡ ys
cons_tail x y xs ys e = cc

-- no element stands in an empty list
pub no_cut_of_nil : {A : Type 0} (f b : List A) (x : A) → [] ≡ f ++ x ∷ b → ⊥
no_cut_of_nil [] b x e = cc
no_cut_of_nil (y ∷ f) b x e = cc

-- fronts of one length are one front
pub equal_fronts : {A : Type 0} (one other rest more : List A) → one ++ rest ≡ other ++ more → length one ≡ length other → (one ≡ other) × (rest ≡ more)
equal_fronts [] [] rest more e long = (refl, e)
equal_fronts [] (y ∷ other) rest more e long = absurd (omega (arith, long))
equal_fronts (x ∷ one) [] rest more e long = absurd (omega (arith, long))
equal_fronts (x ∷ one) (y ∷ other) rest more e long =
    let r = equal_fronts one other rest more (cons_tail x y (one ++ rest) (other ++ more) e) (omega (arith, long)) in
    ((λ i. cons_head x y (one ++ rest) (other ++ more) e i ∷ r.0 i), r.1)

-- where two elements of one list stand: at one place, or one behind the other
pub data Apart {A : Type 0} (front : List A) (x : A) (above : List A) (y : A) : Type 0 where
  one_place : front ≡ above → x ≡ y → Apart front x above y
  first_above : (between : List A) → above ≡ front ++ x ∷ between → Apart front x above y
  second_above : (between : List A) → front ≡ above ++ y ∷ between → Apart front x above y

pub two_cuts : {A : Type 0} (front back above below : List A) (x y : A) → front ++ x ∷ back ≡ above ++ y ∷ below → Apart front x above y
two_cuts [] back [] below x y e = one_place refl (cons_head x y back below e)
two_cuts [] back (z ∷ above) below x y e = first_above above (ap (λ w. w ∷ above) (sym (cons_head x z back (above ++ y ∷ below) e)))
two_cuts (w ∷ front) back [] below x y e = second_above front (ap (λ v. v ∷ front) (cons_head w y (front ++ x ∷ back) below e))
two_cuts (w ∷ front) back (z ∷ above) below x y e = by_rest (two_cuts front back above below x y (cons_tail w z (front ++ x ∷ back) (above ++ y ∷ below) e))
  where
    by_rest : Apart front x above y → Apart (w ∷ front) x (z ∷ above) y
    by_rest (one_place f k) = one_place (λ i. cons_head w z (front ++ x ∷ back) (above ++ y ∷ below) e i ∷ f i) k
    by_rest (first_above b i) = first_above b (λ j. sym (cons_head w z (front ++ x ∷ back) (above ++ y ∷ below) e) j ∷ i j)
    by_rest (second_above b i) = second_above b (λ j. cons_head w z (front ++ x ∷ back) (above ++ y ∷ below) e j ∷ i j)
