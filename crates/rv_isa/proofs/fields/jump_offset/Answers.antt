use Rattle.std.proofs.Common.{◌∙◌, sym, subst}
use Rattle.rv_isa.proofs.BitsLaws.{jump_value, jump_sign_fits}
use Rattle.rv_isa.specs.Operands.{IsJumpOffset}
use Rattle.rv_isa.specs.Bits.{bits}
use Rattle.rv_isa.proofs.fields.jump_offset.Goals as goal

pub overflow_mul-sign : goal.overflow_mul-sign
overflow_mul-sign c = jump_sign_fits c.sign.result (bits c.args.word 31 31) c.sign.ensures.bit c.sign.ensures.value

pub from_value-requires : goal.from_value-requires
from_value-requires c =
    let both = jump_value c.args.word c.sign.result c.cast_signed.result c.field.result c.field-2.result c.field-3.result
    c.sign.ensures.value c.sign.ensures.bit (c.field.ensures.value, c.field.ensures.below) (c.field-2.ensures.value, c.field-2.ensures.below)
    (c.field-3.ensures.value, c.field-3.ensures.below) c.cast_signed.ensures in
    subst IsJumpOffset (sym both.0) both.1

pub returns : goal.returns
returns c = c.from_value.ensures
    ∙ (jump_value c.args.word c.sign.result c.cast_signed.result c.field.result c.field-2.result c.field-3.result
    c.sign.ensures.value c.sign.ensures.bit (c.field.ensures.value, c.field.ensures.below) (c.field-2.ensures.value, c.field-2.ensures.below)
    (c.field-3.ensures.value, c.field-3.ensures.below) c.cast_signed.ensures).0
