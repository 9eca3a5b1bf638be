-- The root of a number: a proof.
use Rattle.std.specs.Prelude.{◌≡◌, ℕ, zero, suc, ◌+◌, ◌*◌, ◌<◌, ◌≤◌, true, false, cond, nat_le, refl}
use Rattle.std.proofs.Common.{arith}
use Rattle.std.proofs.lemmas.Bool.Decides.{nat_tests}
use Rattle.std.proofs.lemmas.Nat.{mul-le}
use Rattle.kernel_policies.specs.TwoLists.{int_sqrt, root_within}

within : (a b : ℕ) → nat_le a b ≡ true → a ≤ b
within a b h = grind (arith, nat_tests)

beyond : (a b : ℕ) → nat_le a b ≡ false → b < a
beyond a b h = grind (arith, nat_tests)

-- a number whose square is at most n is at most the root, and one whose square is greater is greater
above : (n r k : ℕ) → n < (r + 1) * (r + 1) → k * k ≤ n → k ≤ r
above n r k high low = elim (nat_le (r + 1) k) as (λ b. nat_le (r + 1) k ≡ b → k ≤ r) [
  | true ↦ λ h.
      let more : r + 1 ≤ k = within (r + 1) k h in
      let square : (r + 1) * (r + 1) ≤ k * k = mul-le (r + 1) (r + 1) k k more more in
      absurd (omega (arith, square, high, low))
  | false ↦ λ h. let fewer : k < r + 1 = beyond (r + 1) k h in omega (arith, fewer)
] refl

below : (n r k : ℕ) → r * r ≤ n → n < k * k → r < k
below n r k low high = elim (nat_le k r) as (λ b. nat_le k r ≡ b → r < k) [
  | true ↦ λ h.
      let more : k ≤ r = within k r h in
      let square : k * k ≤ r * r = mul-le k k r r more more in
      absurd (omega (arith, square, high, low))
  | false ↦ λ h. beyond k r h
] refl

root_from : (n r most : ℕ) → r * r ≤ n → n < (r + 1) * (r + 1) → r ≤ most → r ≡ root_within n most
root_from n r zero low high h = omega (arith, h)
root_from n r (suc most) low high h = elim (nat_le (suc most * suc most) n) as (λ b. nat_le (suc most * suc most) n ≡ b → r ≡ cond b (suc most) (root_within n most)) [
  | true ↦ λ t. let few : suc most ≤ r = above n r (suc most) high (within (suc most * suc most) n t) in omega (arith, h, few)
  | false ↦ λ t. let few : r < suc most = below n r (suc most) low (beyond (suc most * suc most) n t) in root_from n r most low high (omega (arith, few))
] refl

itself : (r : ℕ) → r ≤ r * r
itself zero = omega arith
itself (suc r) = let e : 1 * suc r ≤ suc r * suc r = mul-le 1 (suc r) (suc r) (suc r) (omega arith) (omega arith) in omega (arith, e)

pub root_is : (n r : ℕ) → r * r ≤ n → n < (r + 1) * (r + 1) → r ≡ int_sqrt n
unfolding int_sqrt
root_is n r low high = root_from n r n low high (let e : r ≤ r * r = itself r in omega (arith, e, low))
