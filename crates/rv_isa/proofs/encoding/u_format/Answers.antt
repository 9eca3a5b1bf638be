use Rattle.std.proofs.Common.{arith}
use Rattle.rv_isa.proofs.FormatLaws.{u_placed}
use Rattle.rv_isa.proofs.encoding.u_format.Goals as goal

pub returns : goal.returns
returns c =
    u_placed c.args.opcode c.from-rd.result c.value.result c.args.rd c.args.immediate
    (omega arith) (omega arith) (omega arith) (omega arith) (omega arith)
