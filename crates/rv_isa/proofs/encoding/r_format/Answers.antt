use Rattle.std.proofs.Common.{arith}
use Rattle.rv_isa.proofs.FormatLaws.{r_placed}
use Rattle.rv_isa.proofs.encoding.r_format.Goals as goal

pub returns : goal.returns
returns c =
    r_placed c.args.opcode c.args.code c.from-rs1.result c.from-rs2.result c.from-rd.result c.args.rs1 c.args.rs2 c.args.rd
    (omega arith) (omega arith) (omega arith) (omega arith) (omega arith) (omega arith) (omega arith) (omega arith) (omega arith)
