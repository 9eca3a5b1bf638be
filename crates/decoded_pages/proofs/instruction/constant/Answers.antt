use Rattle.std.proofs.Common.{refl, ap}
use Rattle.decoded_pages.specs.Classes.{class_of}
use Rattle.decoded_pages.proofs.Standing.{constant_nothing, constant_stands}
use Rattle.decoded_pages.proofs.instruction.constant.Goals as goal

pub returns-in_default : goal.returns-in_default
returns-in_default c = λ insn start place writes. constant_nothing _ insn start place c.args.rd c.args.value c.nothing.ensures c.in_default.ensures writes

pub returns : goal.returns
returns c = λ insn start place writes. constant_stands _ insn start place c.args.rd c.args.value (ap class_of c.plain.ensures) c.in-Some.ensures refl writes
