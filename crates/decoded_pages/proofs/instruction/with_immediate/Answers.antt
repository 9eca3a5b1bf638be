use Rattle.std.proofs.Common.{refl, ap, ◌∙◌}
use Rattle.decoded_pages.specs.Classes.{class_of}
use Rattle.decoded_pages.proofs.Standing.{immediate_nothing, immediate_stands}
use Rattle.decoded_pages.proofs.instruction.with_immediate.Goals as goal

pub returns-in_default : goal.returns-in_default
returns-in_default c = λ start place. immediate_nothing _ start place c.args.kind c.args.rd c.args.rs1 c.args.value c.nothing.ensures c.in_default.ensures

pub returns : goal.returns
returns c = λ start place. immediate_stands _ start place c.args.kind c.args.rd c.args.rs1 c.args.value (ap class_of c.plain.ensures ∙ c.of_immediate.ensures) c.in-Some.ensures refl c.word.ensures.value
