use Rattle.std.proofs.Common.{◌∙◌}
use Rattle.rv_isa.specs.Bits.{bits}
use Rattle.rv_isa.proofs.BitsLaws.{shifted, shifted_31, bits_below}
use Rattle.rv_isa.proofs.fields.sign.Goals as goal

pub returns-clause-value : goal.returns-clause-value
unfolding bits
returns-clause-value c = shifted c.args.word 2147483648 c.cast_signed.result c.ranges.word.fits c.cast_signed.ensures ∙ shifted_31 c.args.word c.ranges.word.fits

pub returns-clause-bit : goal.returns-clause-bit
returns-clause-bit c = bits_below c.args.word 31 31
