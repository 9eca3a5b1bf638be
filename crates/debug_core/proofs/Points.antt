-- Points that are added or removed.
use Rattle.std.proofs.Common.{◌≡◌, ℕ, zero, suc, refl, ◌<◌, List, length, replicate, slice_set, Option, None, subst, sym, inl, inr}
use Rattle.std.proofs.lemmas.Bool.Decides.{eqb_tells}
use Rattle.std.proofs.lemmas.List.{get_or-set_same, get_or-set_other}
use Rattle.debug_core.specs.Points.{point_at, IsPoint, ArePoints}
use Rattle.debug_core.specs.declared.point.Point.{Point}

none_at : (n number : ℕ) → point_at (replicate n None) number ≡ None
none_at zero number = refl
none_at (suc n) zero = refl
none_at (suc n) (suc number) = none_at n number

pub no_points : ArePoints (replicate 32 None)
no_points number = subst IsPoint (sym (none_at 32 number)) tt

pub with_point : (points : List (Option Point)) (place : ℕ) (point : Option Point) → place < length points → ArePoints points → IsPoint point → ArePoints (slice_set points place point)
with_point points place point h are is number =
    elim (eqb_tells number place) [
      | inl same ↦ subst (λ k. IsPoint (point_at (slice_set points place point) k)) (sym same.1) (subst IsPoint (sym (get_or-set_same points place point None h)) is)
      | inr other ↦ subst IsPoint (sym (get_or-set_other points place number point None other.1)) (are number)
    ]
