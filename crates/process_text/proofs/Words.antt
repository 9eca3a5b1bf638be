-- A word is printed in eight digits.
use Rattle.std.proofs.Common.{◌≡◌, ◌∙◌, ◌++◌, ◌-◌, ◌^◌, ℕ, List, [], true, false, Option, Some, ap, append-nil, arith, length, replicate}
use Rattle.std.specs.Prelude.{codes}
use Rattle.std.specs.Fmt.{option_append, padded_integral, char_count, format_spec, radix_digits, digits, shown_prefix, radix_prefix}
use Rattle.std.specs.Option.{option_map}
use Rattle.process_text.specs.ProcessText.{word_text}

padded_eight : (numeral : List ℕ) → padded_integral (format_spec 32 0 4 8 (2 ^ 64 - 1)) false [] numeral ≡ replicate (8 - length numeral) 48 ++ numeral
unfolding padded_integral char_count
padded_eight numeral =
    let same : 8 - length numeral - 0 - 0 ≡ 8 - length numeral = omega arith in
    ap (λ l. replicate (8 - length numeral - 0 - 0) 48 ++ l) (append-nil numeral) ∙ ap (λ n. replicate n 48 ++ numeral) same

pub shown_eight : (w base : ℕ) (o : Option (List ℕ)) → o ≡ Some (radix_digits 16 true w)
    → option_append (Some (codes "0x")) (option_map (padded_integral (format_spec 32 0 4 8 (2 ^ 64 - 1)) false (shown_prefix (format_spec 32 0 4 8 (2 ^ 64 - 1)) (radix_prefix base))) o) ≡ Some (word_text w)
unfolding word_text
shown_eight w base o is =
    ap (λ p. option_append (Some (codes "0x")) (option_map (padded_integral (format_spec 32 0 4 8 (2 ^ 64 - 1)) false []) p)) is
    ∙ ap (λ l. Some (codes "0x" ++ l)) (padded_eight (digits 16 true w))
