use Rattle.std.proofs.Common.{refl, ap, ◌∙◌}
use Rattle.decoded_pages.specs.Classes.{class_of}
use Rattle.decoded_pages.proofs.Standing.{operated_nothing, operated_stands}
use Rattle.decoded_pages.proofs.instruction.operated.Goals as goal

pub returns-in_default : goal.returns-in_default
returns-in_default c = λ start place. operated_nothing _ start place c.args.kind c.args.rd c.args.rs1 c.args.rs2 c.nothing.ensures c.in_default.ensures

pub returns : goal.returns
returns c = λ start place. operated_stands _ start place c.args.kind c.args.rd c.args.rs1 c.args.rs2 (ap class_of c.plain.ensures ∙ c.of_registers.ensures) c.in-Some.ensures refl refl
