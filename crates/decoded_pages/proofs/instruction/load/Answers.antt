use Rattle.std.proofs.Common.{refl, ap, ◌∙◌}
use Rattle.decoded_pages.specs.Classes.{class_of}
use Rattle.decoded_pages.proofs.Standing.{loaded_stands}
use Rattle.decoded_pages.proofs.instruction.load.Goals as goal

pub returns : goal.returns
returns c = λ start place. loaded_stands _ start place c.args.kind c.args.rd c.args.rs1 c.args.offset (ap class_of c.plain.ensures ∙ c.of_load.ensures) c.in-Some.ensures refl c.word.ensures.value
