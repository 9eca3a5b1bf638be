-- What the word of a number is.
use Rattle.std.proofs.Common.{◌≡◌, ℕ, suc, ◌-◌, ◌^◌, ◌≤◌, ℤ, pos, negsuc, ◌+ℤ◌, ◌⊎◌, inl, inr, Bool, true, false, cond, Ok, Err, int_le, arith, refl, sym, ap}
use Rattle.std.specs.Int.{w32}
use Rattle.std.proofs.lemmas.Int.{ints}
use Rattle.asm_lines.specs.declared.fault.FaultKind.TheVariants.{Range as OutOfRange}
use Rattle.asm_values.specs.Ranges.{up_to, bits_within}

-- the value of an answer that is a value
cond_ok : (b : Bool) (x y : ℕ) → cond b (Ok x) (Err OutOfRange) ≡ Ok y → (b ≡ true) × (x ≡ y)
cond_ok true x y is = (refl, cc)
cond_ok false x y is = cc

-- the word of a number is the number modulo 2^32
pub word_is_number : (n : ℤ) (word : ℕ) → bits_within w32 (negsuc 0x7FFF_FFFF) 0xFFFF_FFFF n ≡ Ok word
    → (pos word ≡ n) ⊎ (pos word ≡ n +ℤ pos (2 ^ 32))
unfolding bits_within up_to
word_is_number (pos n) word is =
    let same : n ≡ word = grind arith in
    inl (ap pos (sym same))
word_is_number (negsuc n) word is =
    let parts : (int_le (negsuc 0x7FFF_FFFF) (negsuc n) ≡ true) × (2 ^ 32 - suc n ≡ word) = cond_ok (int_le (negsuc 0x7FFF_FFFF) (negsuc n)) (2 ^ 32 - suc n) word is in
    let below : n ≤ 0x7FFF_FFFF = grind (arith, ints, parts.0) in
    inr (omega (arith, ints, parts.1))
