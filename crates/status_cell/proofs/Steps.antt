-- Each step of the cell keeps its rule.
use Rattle.std.proofs.Common.{◌≡◌, ◌≢◌, ℕ, true, false, List, set, refl, sym, ◌∙◌, subst, ⊎_elim, le_refl, le_trans, arith}
use mathlib.Core.Option.{some}
use lib.ListN.{get_elem?}
use Rattle.atomic_table.proofs.Lists.{at_set, at_snoc, set_again}
use Rattle.crossbeam_utils.specs.Register.{Turns, Forks, Merges}
use Rattle.status_cell.specs.declared.status.Status.{Status}
use Rattle.status_cell.specs.declared.rule.Known.{Known}
use Rattle.status_cell.specs.Counts.{AtMost, most, nothing}
use Rattle.status_cell.specs.Views.{NoneAbove, view_of}

-- what the rule says of one view
abbrev pub Fits : Status → ℕ → Known → Type 0
Fits pair pass v = AtMost v.status pair × (v.writes ≡ true → (pass ≡ 0) × (v.status ≡ pair))

fits_along : (pair : Status) (pass : ℕ) (v w : Known) → v ≡ w → Fits pair pass v → Fits pair pass w
fits_along pair pass v w e = subst (Fits pair pass) e

-- a viewer's view fits wherever it stands
viewer_fits : (pair : Status) (pass : ℕ) (v : Known) → v.writes ≡ false → AtMost v.status pair → Fits pair pass v
viewer_fits pair pass v views below = (below, λ writes. cc)

pub publishes : (pass : ℕ) (v : Known) (new : Status) → v.writes ≡ true → AtMost v.status new
    → Turns NoneAbove pass v (λ _. new) (λ v _ new w. w ≡ record v { status = new })
publishes pass v new writes rises x views h at =
    let own : Fits x pass v = h pass v at in
    let w : Known = record v { status = new } in (
      w,
      (λ j u e. ⊎_elim
          (λ (t : (j ≡ pass) × (w ≡ u)). fits_along new j w u t.1 ((le_refl _, le_refl _), λ _. (t.0 ∙ (own.1 writes).0, refl)))
          (λ (t : (j ≢ pass) × (get_elem? views j ≡ some u)).
          let was : Fits x j u = h j u t.1 in
          let same : v.status ≡ x = (own.1 writes).1 in (
            subst (λ (y : Status). AtMost u.status y → AtMost u.status new) same
                (λ below. (le_trans below.0 rises.0, le_trans below.1 rises.1)) was.0,
            λ too. absurd (t.0 ((was.1 too).0 ∙ sym (own.1 writes).0)),
          ))
          (at_set views pass j w u e)),
      refl,
    )

pub looks : (pass : ℕ) (v : Known) → v.writes ≡ false
    → Turns NoneAbove pass v (λ x. x) (λ v old new w. AtMost v.status old × (w ≡ record v { status = new }))
looks pass v views_only x views h at =
    let w : Known = record v { status = x } in (
      w,
      (λ j u e. ⊎_elim
          (λ (t : (j ≡ pass) × (w ≡ u)). fits_along x j w u t.1 (viewer_fits x j w views_only (le_refl _, le_refl _)))
          (λ (t : (j ≢ pass) × (get_elem? views j ≡ some u)). h j u t.1)
          (at_set views pass j w u e)),
      ((h pass v at).0, refl),
    )

pub cuts : (pass : ℕ) (v : Known) → Forks NoneAbove pass v v (view_of v.status)
cuts pass v x views h at j u e =
    ⊎_elim (λ was. h j u (subst (λ (l : List Known). get_elem? l j ≡ some u) (set_again views pass v at) was))
    (λ (same : view_of v.status ≡ u). fits_along x j (view_of v.status) u same (viewer_fits x j (view_of v.status) refl (h pass v at).0))
    (at_snoc (set views pass v) (view_of v.status) u j e)

pub hands_on : (pass : ℕ) (v : Known) → v.writes ≡ false → Forks NoneAbove pass v (view_of nothing) v
hands_on pass v views_only x views h at j u e =
    ⊎_elim
    (λ was. ⊎_elim
    (λ (t : (j ≡ pass) × (view_of nothing ≡ u)). fits_along x j (view_of nothing) u t.1 (viewer_fits x j (view_of nothing) refl (omega arith, omega arith)))
    (λ (t : (j ≢ pass) × (get_elem? views j ≡ some u)). h j u t.1)
    (at_set views pass j (view_of nothing) u was))
    (λ (same : v ≡ u). fits_along x j v u same (viewer_fits x j v views_only (h pass v at).0))
    (at_snoc (set views pass (view_of nothing)) v u j e)

most_below : (s t x : Status) → AtMost s x → AtMost t x → AtMost (most s t) x
most_below s t x a b = (omega arith, omega arith)

pub joins : (pass : ℕ) (v : Known) (other : ℕ) (w : Known)
    → Merges NoneAbove pass v other w (view_of (most v.status w.status)) (view_of nothing)
joins pass v other w x views h at apart at_other j u e =
    let both : Known = view_of (most v.status w.status) in
    let below : AtMost w.status x =
    ⊎_elim (λ (t : (other ≡ pass) × (both ≡ w)). absurd (apart t.0))
    (λ (t : (other ≢ pass) × (get_elem? views other ≡ some w)). (h other w t.1).0)
    (at_set views pass other both w at_other) in
    ⊎_elim
    (λ (t : (j ≡ other) × (view_of nothing ≡ u)). fits_along x j (view_of nothing) u t.1 (viewer_fits x j (view_of nothing) refl (omega arith, omega arith)))
    (λ (t : (j ≢ other) × (get_elem? (set views pass both) j ≡ some u)).
    ⊎_elim
    (λ (s : (j ≡ pass) × (both ≡ u)). fits_along x j both u s.1 (viewer_fits x j both refl (most_below v.status w.status x (h pass v at).0 below)))
    (λ (s : (j ≢ pass) × (get_elem? views j ≡ some u)). h j u s.1)
    (at_set views pass j both u t.1))
    (at_set (set views pass both) other j (view_of nothing) u e)
