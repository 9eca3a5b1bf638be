use Rattle.std.proofs.Common.{◌≡◌, ◌+◌, ◌*◌, min, arith, ◌∙◌, ap, sym, ◌∷◌}
use Rattle.asm_lines.specs.Numbers.{too_large}
use Rattle.asm_lines.proofs.Numerals.{numeral_goes_on}
use Rattle.asm_lines.proofs.numbers.saturating_numeral.Goals as goal

pub loop-first-preserved : goal.loop-first-preserved
loop-first-preserved c =
    let held : c.min-value.result ≡ min (c.loop-first.value * c.args.radix + c.in_ok-digit.digit) too_large = rw (c.from-in-Some.ensures, c.from-in-Some-2.ensures) at c.min-value.ensures in
    let split : c.loop-first.rest.now ≡ c.from.result ∷ c.in-Some.others.now = c.in-Some.ensures.cases.0 ∙ ap (λ b. b ∷ c.in-Some.others.now) (sym c.from.ensures) in
    let digit = c.in_ok-digit.ensures.value in (
      numeral_goes_on too_large c.args.radix c.loop-first.value c.from.result c.in_ok-digit.digit c.min-value.result c.in-Some.others.now c.loop-first.rest.now (omega arith) split digit.0 digit.1 held ∙ c.loop-first.invariant.0,
      omega (arith, held),
    )
