-- What a test of two numbers tells, and the test from what is so of them.
use Rattle.std.specs.Prelude.{◌≡◌, ℕ, suc, ◌<◌, ◌≤◌, true, false, nat_lt}
use Rattle.std.proofs.Common.{arith}
use Rattle.std.proofs.lemmas.Bool.Decides.{nat_tests}

pub less : (a b : ℕ) → nat_lt a b ≡ true → a < b
less a b h = grind (arith, nat_tests)

pub most : (a b : ℕ) → nat_lt a b ≡ false → b ≤ a
most a b h = grind (arith, nat_tests)

pub yes_less : (a b : ℕ) → a < b → nat_lt a b ≡ true
yes_less a b h = grind (arith, nat_tests)

pub no_less : (a b : ℕ) → b ≤ a → nat_lt a b ≡ false
no_less a b h = grind (arith, nat_tests)

pub next_less : (a b : ℕ) → nat_lt (suc a) (suc b) ≡ nat_lt a b
next_less a b = grind (arith, nat_tests)
