use Rattle.std.proofs.Common.{arith}
use Rattle.rv_isa.proofs.FormatLaws.{amo_placed}
use Rattle.rv_isa.proofs.encoding.amo_format.Goals as goal

pub returns : goal.returns
returns c =
    amo_placed c.args.funct5 c.args.ordering.0 c.args.ordering.1 c.from-rs1.result c.from-rs2.result c.from-rd.result c.args.rs1 c.args.rs2 c.args.rd
    (omega arith) (omega arith) (omega arith) (omega arith) (omega arith) (omega arith) (omega arith) (omega arith) (omega arith)
