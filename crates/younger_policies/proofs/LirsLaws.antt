-- Pages leave the bottom of LIRS's stack one by one: a proof.
use Rattle.std.specs.Prelude.{◌≡◌, ℕ, suc, ◌+◌, ◌-◌, ◌<◌, Bool, false, cond}
use Rattle.std.proofs.Common.{arith, sym, ap, ◌∙◌}
use Rattle.page_policies.specs.Ordered.{last_of}
use Rattle.younger_policies.specs.Lirs.{LirsState, is_bottom_lir, without_bottom, pruned}

pub pruned_more : (n i : ℕ) (s t : LirsState) → i < n → false ≡ is_bottom_lir (last_of s.stack) s → t ≡ without_bottom s → pruned (n - (i + 1)) t ≡ pruned (n - i) s
pruned_more n i s t h lir is =
    let e : n - i ≡ suc (n - (i + 1)) = omega (arith, h) in
    ap (pruned (n - (i + 1))) is
    ∙ ap (λ (b : Bool). cond b s (pruned (n - (i + 1)) (without_bottom s))) lir
    ∙ ap (λ (k : ℕ). pruned k s) (sym e)
