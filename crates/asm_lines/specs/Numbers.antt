-- Numbers as they are written.
use Rattle.std.specs.Prelude.{ℕ, ◌^◌, min, List, [], ◌∷◌, drop, Option, Some, None, option_map, nat_eq, if◌then◌else◌, ℤ, pos, neg_ℤ, codes}
use Rattle.std.specs.List.{list_all, starts_with}
use Rattle.std.specs.Char.{is_digit}
use Rattle.std.specs.Str.Parse.{digits_value}

-- a number that no field holds: each number from here on stands as this one
abbrev pub too_large : ℕ
too_large = 2 ^ 40

-- what one digit or more write in a radix, where nothing else stands there: their value, held down to too_large
unfoldable pub saturating_numeral : ℕ → List ℕ → Option ℕ
saturating_numeral radix [] = None
saturating_numeral radix (byte ∷ bytes) =
    if list_all (λ digit. is_digit digit radix) (byte ∷ bytes) then Some (min too_large (digits_value radix (byte ∷ bytes))) else None

-- a number is hexadecimal behind `0x`, and else decimal, where `-` may stand first
unfoldable pub number_of : List ℕ → Option ℤ
number_of word =
    if starts_with nat_eq word (codes "0x") then option_map pos (saturating_numeral 16 (drop 2 word))
    else if starts_with nat_eq word (codes "-") then option_map (λ size. neg_ℤ (pos size)) (saturating_numeral 10 (drop 1 word))
    else option_map pos (saturating_numeral 10 word)
