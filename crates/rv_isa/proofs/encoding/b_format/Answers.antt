use Rattle.std.proofs.Common.{arith}
use Rattle.rv_isa.proofs.FormatLaws.{b_placed}
use Rattle.rv_isa.proofs.encoding.b_format.Goals as goal

pub returns : goal.returns
returns c =
    b_placed c.args.opcode c.args.funct3 c.from-rs1.result c.from-rs2.result c.word-offset.result
    c.field.result c.field-2.result c.field-3.result c.field-4.result c.args.rs1 c.args.rs2 c.args.offset
    (omega arith) (omega arith) (omega arith) (omega arith) (omega arith) (omega arith)
    c.word-offset.ensures.in_range c.word-offset.ensures.value
    c.field.ensures.value c.field-2.ensures.value c.field-3.ensures.value c.field-4.ensures.value
