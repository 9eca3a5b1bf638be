use Rattle.std.proofs.Common.{arith}
use Rattle.rv_isa.proofs.FormatLaws.{fence_placed}
use Rattle.rv_isa.proofs.encoding.fence_format.Goals as goal

pub returns : goal.returns
returns c =
    fence_placed c.args.opcode c.from-rs1.result c.from-rd.result c.from-bits.result c.args.rs1 c.args.rd c.args.bits
    (omega arith) (omega arith) (omega arith) (omega arith) (omega arith) (omega arith) (omega arith)
