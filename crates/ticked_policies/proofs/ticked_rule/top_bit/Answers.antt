use Rattle.std.proofs.Common.{◌≡◌, ◌∙◌, ◌^◌, ◌≤◌, ℕ, ap, arith, min}
use Rattle.std.proofs.lemmas.Nat.{one_shl}
use Rattle.ticked_policies.specs.Ticked.{top_bit}
use Rattle.ticked_policies.proofs.ticked_rule.top_bit.Goals as goal

below : (r a : ℕ) → r ≡ min a 31 → r ≤ 31
below r a h = omega (arith, h)

pub returns-clause-bit : goal.returns-clause-bit
unfolding top_bit
returns-clause-bit c =
    let small : c.min.result ≤ 31 = below c.min.result c.saturating_sub.result c.min.ensures in
    one_shl c.min.result 64 (omega (arith, small)) ∙ ap (λ (k : ℕ). 2 ^ k) (c.min.ensures ∙ ap (λ (n : ℕ). min n 31) c.saturating_sub.ensures)
