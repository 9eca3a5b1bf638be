-- Powers of two that are numbers of frames.
use Rattle.std.proofs.Common.{◌≡◌, ℕ, ◌*◌, ◌^◌, ◌≤◌, ◌<◌, ◌%◌, arith, lit≤}
use Rattle.std.proofs.Math.Nat.{pow-le-pow_right}
use Rattle.std.proofs.lemmas.Nat.{one_shl}

pub power_bounds : (k : ℕ) → 2 ≤ k → k < 13 → (4 ≤ 2 ^ k) × (2 ^ k ≤ 4096)
power_bounds k least most =
    let below : k ≤ 12 = omega (arith, most) in
    (pow-le-pow_right {n = 2} (lit≤ tt) least, pow-le-pow_right {n = 2} (lit≤ tt) below)

pub power_fits : (k : ℕ) → k < 13 → (1 * 2 ^ k) % 2 ^ 64 ≡ 2 ^ k
power_fits k most = one_shl k 64 (omega (arith, most))
