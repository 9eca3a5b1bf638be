-- Eight hexadecimal digits write a word, of 32 bits.
use Rattle.std.proofs.Common.{◌≡◌, ℕ, ◌≤◌, ◌<◌, ◌^◌, List, Option, Some, None, length, arith}
use Rattle.std.specs.Option.{SomeIff}
use Rattle.std.specs.Str.Parse.{AllDigits, IsNumeral, digits_value}
use Rattle.std.proofs.lemmas.Int.Digits.{digits_value-lt}
use Rattle.image_files.specs.WordsFile.{IsWordLine}

bound : (line : List ℕ) → length line ≡ 8 → AllDigits 16 line → digits_value 16 line ≤ 4294967295
bound line eight digits =
    let below : digits_value 16 line < 16 ^ 8 = rw eight at (digits_value-lt 16 line digits) in
    omega (arith, below)

pub eight_fit : (line : List ℕ) (found : Option ℕ) → length line ≡ 8
    → SomeIff found (IsNumeral 16 line × (digits_value 16 line ≤ 4294967295)) (digits_value 16 line)
    → SomeIff found (IsWordLine line) (digits_value 16 line)
eight_fit line None eight none = λ word. none ((omega (arith, eight), word.1), bound line word.0 word.1)
eight_fit line (Some n) eight some = ((eight, some.0.0.1), some.1)
