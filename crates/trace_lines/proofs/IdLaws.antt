-- Numbers that are written, in std's words: proofs.
use Rattle.std.specs.Prelude.{◌≡◌, ℕ, ◌+◌, ◌<◌, ◌≤◌, Bool, true, false, ◌&&◌, List, [], ◌∷◌, length, nat_lt, Option, Some, None, cond, refl}
use Rattle.std.specs.Bool.{Decides}
use Rattle.std.specs.Option.{SomeIff}
use Rattle.std.specs.List.{list_all}
use Rattle.std.specs.Char.{digit_value}
use Rattle.std.specs.Str.Parse.{AllDigits, IsNumeral, digits_value}
use Rattle.std.proofs.Common.{arith, ap}
use Rattle.std.proofs.lemmas.Bool.Decides.{Decides-and, Decides-ltb}
use Rattle.text_lines.specs.Numbers.{IsNumber, number_value, radix_of, digits_of}
use Rattle.trace_lines.specs.Ids.{is_numeral, number_below, written_below}

digits_decided : (radix : ℕ) (text : List ℕ) → Decides (list_all (λ c. nat_lt (digit_value c) radix) text) (AllDigits radix text)
digits_decided radix [] = (λ _. tt, λ _. refl)
digits_decided radix (c ∷ text) = Decides-and _ _ (Decides-ltb (digit_value c) radix) (digits_decided radix text)

by_test : (P : Type 0) (b : Bool) (r : Option ℕ) (v : ℕ) → Decides b P → SomeIff r P v → r ≡ cond b (Some v) None
by_test P true None v d h = absurd (h (d.0 refl))
by_test P true (Some x) v d h = ap Some h.1
by_test P false None v d h = refl
by_test P false (Some x) v d h = let e : false ≡ true = d.1 h.0 in cc

pub number_told : (limit radix : ℕ) (text : List ℕ) (r : Option ℕ) → SomeIff r (IsNumeral radix text × (digits_value radix text < limit)) (digits_value radix text)
    → r ≡ number_below limit radix text
unfolding number_below
number_told limit radix text r h = by_test (IsNumeral radix text × (digits_value radix text < limit)) (is_numeral radix text && nat_lt (digits_value radix text) limit) r (digits_value radix text)
    (Decides-and _ _ (Decides-and _ _ (Decides-ltb 0 (length text)) (digits_decided radix text)) (Decides-ltb (digits_value radix text) limit)) h

at_most : (P : Type 0) (r : Option ℕ) (v n limit : ℕ) → limit ≡ n + 1 → SomeIff r (P × (v ≤ n)) v → SomeIff r (P × (v < limit)) v
at_most P None v n limit e h = λ p. h (p.0, omega (arith, p.1))
at_most P (Some x) v n limit e h = ((h.0.0, omega (arith, h.0.1)), h.1)

-- what `number` of `text_lines` answers at the greatest number of 32 bits
pub short_told : (text : List ℕ) (r : Option ℕ) → SomeIff r (IsNumber 4294967295 text) (number_value text) → r ≡ written_below 4294967296 text
unfolding written_below
short_told text r h = number_told 4294967296 (radix_of text) (digits_of text) r (at_most (IsNumeral (radix_of text) (digits_of text)) r (digits_value (radix_of text) (digits_of text)) 4294967295 4294967296 refl h)
