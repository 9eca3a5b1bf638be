use Rattle.std.proofs.Common.{◌∙◌}
use Rattle.rv_isa.specs.Bits.{bits}
use Rattle.rv_isa.proofs.BitsLaws.{shifted, shifted_20}
use Rattle.rv_isa.proofs.fields.immediate.Goals as goal

pub returns : goal.returns
unfolding bits
returns c = c.from_value.ensures ∙ shifted c.args.word 1048576 c.cast_signed.result c.ranges.word.fits c.cast_signed.ensures ∙ shifted_20 c.args.word c.ranges.word.fits
