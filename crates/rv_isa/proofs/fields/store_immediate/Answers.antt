use Rattle.std.proofs.Common.{◌+◌, ◌*◌, ◌<◌, ◌∙◌, sym, ap, subst, arith, refl, lit<, to_z, w32}
use Rattle.rv_isa.specs.Bits.{bits, signed}
use Rattle.rv_isa.proofs.BitsLaws.{bits_below, store_sum, immediate_range}
use Rattle.rv_isa.specs.Operands.{IsImmediate}
use Rattle.rv_isa.proofs.fields.store_immediate.Goals as goal

pub overflow_mul-signed_funct7 : goal.overflow_mul-signed_funct7
overflow_mul-signed_funct7 c =
    (store_sum c.signed_funct7.result (bits c.args.word 31 25) 0 (to_z w32 0)
    (bits_below c.args.word 31 25) (lit< tt) c.signed_funct7.ensures refl).0

pub from_value-requires : goal.from_value-requires
from_value-requires c =
    let high : bits c.args.word 31 25 < 128 = bits_below c.args.word 31 25 in
    subst IsImmediate
    (sym (store_sum c.signed_funct7.result (bits c.args.word 31 25) c.field.result c.cast_signed.result
    high c.field.ensures.below c.signed_funct7.ensures c.cast_signed.ensures).1)
    (immediate_range (bits c.args.word 31 25 * 32 + c.field.result) (omega arith))

pub returns : goal.returns
returns c =
    c.from_value.ensures
    ∙ (store_sum c.signed_funct7.result (bits c.args.word 31 25) c.field.result c.cast_signed.result
    (bits_below c.args.word 31 25) c.field.ensures.below c.signed_funct7.ensures c.cast_signed.ensures).1
    ∙ ap (λ low. signed 12 (bits c.args.word 31 25 * 32 + low)) c.field.ensures.value
