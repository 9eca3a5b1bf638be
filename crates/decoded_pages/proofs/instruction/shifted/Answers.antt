use Rattle.std.proofs.Common.{refl, ap, ◌∙◌}
use Rattle.decoded_pages.specs.Classes.{class_of}
use Rattle.decoded_pages.proofs.Standing.{shifted_nothing, shifted_stands}
use Rattle.decoded_pages.proofs.instruction.shifted.Goals as goal

pub returns-in_default : goal.returns-in_default
returns-in_default c = λ start place. shifted_nothing _ start place c.args.kind c.args.rd c.args.rs1 c.args.amount c.nothing.ensures c.in_default.ensures

pub returns : goal.returns
returns c = λ start place. shifted_stands _ start place c.args.kind c.args.rd c.args.rs1 c.args.amount (ap class_of c.plain.ensures ∙ c.of_shift.ensures) c.in-Some.ensures refl (c.from.ensures ∙ c.value.ensures.value)
