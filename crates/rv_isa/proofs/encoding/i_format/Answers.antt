use Rattle.std.proofs.Common.{arith}
use Rattle.rv_isa.proofs.FormatLaws.{i_placed}
use Rattle.rv_isa.proofs.encoding.i_format.Goals as goal

pub returns : goal.returns
returns c =
    i_placed c.args.opcode c.args.funct3 c.from-rs1.result c.from-rd.result c.field-immediate.result c.word.result c.args.rs1 c.args.rd c.args.immediate
    (omega arith) (omega arith) (omega arith) (omega arith) (omega arith) (omega arith)
    c.word.ensures.in_range c.word.ensures.value c.field-immediate.ensures.value
