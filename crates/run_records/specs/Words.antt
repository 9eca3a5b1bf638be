-- The words of a record: numbers and digests.
use Rattle.std.specs.Prelude.{ℕ, ◌^◌, ◌==◌, ◌&&◌, nat_lt, nat_le, Bool, List, [], ◌∷◌, length, slice_index, Option, Some, None, cond, Result, Ok, Err}
use Rattle.std.specs.Option.{option_map}
use Rattle.std.specs.List.{list_all}
use Rattle.std.specs.Char.{digit_value}
use Rattle.std.specs.Str.{bytes_eq}
use Rattle.std.specs.Str.Parse.{digits_value}
use Rattle.hex.specs.Hex.{encode_lower, decode_sized}
use Rattle.hex.specs.declared.error.FromHexError.{FromHexError}

-- ---- a text cut in two

abbrev pub longer : ℕ → List ℕ × List ℕ → List ℕ × List ℕ
longer c parts = (c ∷ parts.0, parts.1)

abbrev pub is_space : ℕ → Bool
is_space c = c == 32

-- the part of a text before the first space, and the part after it; none where there is no space
unfoldable pub cut : List ℕ → Option (List ℕ × List ℕ)
cut [] = None
cut (c ∷ text) = cond (is_space c) (Some ([], text)) (option_map (longer c) (cut text))

-- ---- numbers

abbrev pub is_numeral : List ℕ → Bool
is_numeral text = nat_lt 0 (length text) && list_all (λ c. nat_lt (digit_value c) 10) text

-- the number of 64 bits that decimal digits write
unfoldable pub numeral_of : List ℕ → Option ℕ
numeral_of text = cond (is_numeral text && nat_lt (digits_value 10 text) (2 ^ 64)) (Some (digits_value 10 text)) None

abbrev pub up_to : ℕ → Option ℕ → Option ℕ
up_to most None = None
up_to most (Some n) = cond (nat_le n most) (Some n) None

-- a zero precedes something else
abbrev pub is_padded : List ℕ → Bool
is_padded text = nat_lt 1 (length text) && (slice_index text 0 == 48)

-- the number that decimal digits write, with no zero in front of others, where it is not above the most
unfoldable pub number_of : ℕ → List ℕ → Option ℕ
number_of most text = cond (is_padded text) None (up_to most (numeral_of text))

-- a number of 32 bits
abbrev pub word_of : List ℕ → Option ℕ
word_of text = number_of 4294967295 text

-- a number of 64 bits
abbrev pub long_of : List ℕ → Option ℕ
long_of text = number_of 18446744073709551615 text

-- ---- digests

abbrev pub written_so : List ℕ → Result (List ℕ) FromHexError → Option (List ℕ)
written_so text (Ok digest) = cond (bytes_eq (encode_lower digest) text) (Some digest) None
written_so text (Err error) = None

-- the digest of 32 bytes that hexadecimal digits write, in lower case
unfoldable pub digest_of : List ℕ → Option (List ℕ)
digest_of text = written_so text (decode_sized text 32)
