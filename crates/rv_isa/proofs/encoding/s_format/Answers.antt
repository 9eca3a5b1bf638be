use Rattle.std.proofs.Common.{arith}
use Rattle.rv_isa.proofs.FormatLaws.{s_placed}
use Rattle.rv_isa.proofs.encoding.s_format.Goals as goal

pub returns : goal.returns
returns c =
    s_placed c.args.opcode c.args.funct3 c.from-rs1.result c.from-rs2.result c.field-high.result c.field-low.result
    c.word-immediate.result c.args.rs1 c.args.rs2 c.args.immediate
    (omega arith) (omega arith) (omega arith) (omega arith) (omega arith) (omega arith)
    c.word-immediate.ensures.in_range c.word-immediate.ensures.value c.field-high.ensures.value c.field-low.ensures.value
