-- Laws on numbers as they are written.
use Rattle.std.specs.Prelude.{◌≡◌, ℕ, ◌<◌, ◌≤◌, min, List, [], ◌∷◌, true, false, Some, None, pos, neg_ℤ, refl, nat_eq, codes}
use Rattle.std.specs.List.{list_all, starts_with}
use Rattle.std.specs.Char.{digit_value, is_digit}
use Rattle.std.specs.Str.Parse.{AllDigits, IsNumeral, digits_value}
use Rattle.std.proofs.Common.{◌∙◌, ap, arith, lt-ltb, lit≤, ne_eqb}
use Rattle.std.proofs.lemmas.Bool.{and_from, and_right, and_left, cond-true}
use Rattle.asm_lines.specs.Numbers.{too_large, saturating_numeral, number_of}

digits_pass : (radix : ℕ) (text : List ℕ) → AllDigits radix text → list_all (λ byte. is_digit byte radix) text ≡ true
digits_pass radix [] all = refl
digits_pass radix (byte ∷ text) all =
    and_from (is_digit byte radix) (list_all (λ b. is_digit b radix) text) (lt-ltb _ _ all.0) (digits_pass radix text all.1)

not_too_large : (n : ℕ) → n ≤ too_large → min too_large n ≡ n
not_too_large n small = omega (arith, small)

numeral_reads : (radix : ℕ) (text : List ℕ) → IsNumeral radix text → digits_value radix text ≤ too_large
    → saturating_numeral radix text ≡ Some (digits_value radix text)
unfolding saturating_numeral
numeral_reads radix [] is small = absurd (omega (arith, is.0))
numeral_reads radix (byte ∷ text) is small =
    cond-true (list_all (λ digit. is_digit digit radix) (byte ∷ text)) (Some (min too_large (digits_value radix (byte ∷ text)))) None (digits_pass radix (byte ∷ text) is.1)
    ∙ ap Some (not_too_large (digits_value radix (byte ∷ text)) small)

-- no decimal digit is an `x` or a `-`
no_digit : (other byte : ℕ) → 10 ≤ digit_value other → digit_value byte < 10 → nat_eq other byte ≡ false
no_digit other byte none digit = ne_eqb other byte (λ same. apart (digit_value other) (digit_value byte) none digit (ap digit_value same))
  where
    apart : (m n : ℕ) → 10 ≤ m → n < 10 → m ≡ n → ⊥
    apart m n low high same = omega (arith, low, high, same)

no_prefix : (text : List ℕ) → AllDigits 10 text → starts_with nat_eq text (codes "0x") ≡ false
no_prefix [] all = refl
no_prefix (byte ∷ []) all = and_right (nat_eq 48 byte) false refl
no_prefix (byte ∷ next ∷ text) all = and_right (nat_eq 48 byte) _ (and_left (nat_eq 120 next) true (no_digit 120 next (lit≤ tt) all.1.0))

no_minus : (text : List ℕ) → AllDigits 10 text → starts_with nat_eq text (codes "-") ≡ false
no_minus [] all = refl
no_minus (byte ∷ text) all = and_left (nat_eq 45 byte) true (no_digit 45 byte (lit≤ tt) all.0)

-- decimal digits write their value, ..
pub decimal_reads : (digits : List ℕ) → IsNumeral 10 digits → digits_value 10 digits ≤ too_large → number_of digits ≡ Some (pos (digits_value 10 digits))
unfolding number_of
decimal_reads digits is small = rw (no_prefix digits is.1, no_minus digits is.1, numeral_reads 10 digits is small) refl

-- .. a minus before them its negative, ..
pub negative_reads : (digits : List ℕ) → IsNumeral 10 digits → digits_value 10 digits ≤ too_large → number_of (45 ∷ digits) ≡ Some (neg_ℤ (pos (digits_value 10 digits)))
unfolding number_of
negative_reads digits is small = rw (numeral_reads 10 digits is small) refl

-- .. and hexadecimal digits behind `0x` theirs
pub hexadecimal_reads : (digits : List ℕ) → IsNumeral 16 digits → digits_value 16 digits ≤ too_large → number_of (48 ∷ 120 ∷ digits) ≡ Some (pos (digits_value 16 digits))
unfolding number_of
hexadecimal_reads digits is small = rw (numeral_reads 16 digits is small) refl
