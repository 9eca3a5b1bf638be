-- The numbers of ids, of addresses and of sizes, as they are written.
use Rattle.std.specs.Prelude.{ℕ, ◌^◌, Bool, ◌&&◌, List, length, nat_lt, Option, Some, None, cond}
use Rattle.std.specs.List.{list_all}
use Rattle.std.specs.Char.{digit_value}
use Rattle.std.specs.Str.Parse.{digits_value}
use Rattle.text_lines.specs.Numbers.{radix_of, digits_of}

-- one digit of a radix or more, and nothing else
abbrev pub is_numeral : ℕ → List ℕ → Bool
is_numeral radix text = nat_lt 0 (length text) && list_all (λ c. nat_lt (digit_value c) radix) text

-- the number below a limit that digits of a radix represent; none where the text has other characters, is empty, or is not below the limit
unfoldable pub number_below : ℕ → ℕ → List ℕ → Option ℕ
number_below limit radix text = cond (is_numeral radix text && nat_lt (digits_value radix text) limit) (Some (digits_value radix text)) None

-- hexadecimal after `0x`, and else decimal
unfoldable pub written_below : ℕ → List ℕ → Option ℕ
written_below limit text = number_below limit (radix_of text) (digits_of text)

-- an id has 64 bits, and so has an address
abbrev pub id_to : ℕ → List ℕ → Option ℕ
id_to radix text = number_below (2 ^ 64) radix text

abbrev pub id_in : List ℕ → Option ℕ
id_in text = written_below (2 ^ 64) text
