use Rattle.std.proofs.Common.{◌∙◌}
use Rattle.rv_isa.specs.Bits.{bits}
use Rattle.rv_isa.proofs.BitsLaws.{shifted, shifted_25}
use Rattle.rv_isa.proofs.fields.signed_funct7.Goals as goal

pub returns : goal.returns
unfolding bits
returns c =
    shifted c.args.word 33554432 c.cast_signed.result c.ranges.word.fits c.cast_signed.ensures
    ∙ shifted_25 c.args.word c.ranges.word.fits
